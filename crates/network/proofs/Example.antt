-- The worked example, over thousands of ticks: changes of an idle network, and an ordinary frame that waits at port 0 while its gate would close too soon.
use Rattle.std.proofs.Common.{◌≡◌, ℕ, zero, suc, ◌+◌, ◌-◌, ◌*◌, ◌%◌, ◌<◌, ◌≤◌, Bool, true, false, cond, ◌&&◌, eqb, ltb, leb, List, [], ◌∷◌, Some, None, Option, sym, refl, ap, ◌∙◌, inl, inr, arith, lit<}
use lib.Count.{count_leading_zeros}
use Rattle.std.proofs.lemmas.Bool.{cases_lt, cases_eq, le-ltb, le-leb, and_left, and_right, and_from, cond-true, cond-false}
use Rattle.schedule.specs.Plan.{HasHop, hop_count, release_of, port_at}
use Rattle.gates.specs.Figures.{one_flow}
use Rattle.gates.specs.Octets.{octet_at, opens}
use Rattle.gates.specs.Scan.{stretch_after}
use Rattle.gates.specs.Timetable.{steady, cyclic_octet, each, open_for}
use Rattle.gates.proofs.Meets.{stretch_octet}
use Rattle.gates.proofs.Edges.{octet_stays}
use Rattle.gates.proofs.Example.{figures}
use Rattle.egress.specs.declared.ordinary.Frame.{Frame}
use Rattle.egress.specs.Mask.{highest}
use Rattle.egress.specs.Times.{Near}
use Rattle.egress.specs.Masks.{highest_picks, left_none}
use Rattle.network.specs.Lawful.{Fit, ClocksNear, Lawful}
use Rattle.network.specs.Ports.{Port, empty_port, mask_below, sent, flow_sent, passed}
use Rattle.network.specs.Calls.{Network, Call, queue, read_wire, advance, change, Reply, queued, carries, now_is, changes_at, refused, advance_refused, tick, ticks, replies}
use Rattle.network.specs.Tables.{Tables, tables, blank, port_through, ticked_tables}
use Rattle.network.specs.NetworkFigures.{strict, exact, ahead_by, behind_by, StartsAtOnce, StartsLater, ChangeAt}

-- what holds at each place holds of all; what fails at one fails
each_true : (n : ℕ) (q : ℕ → Bool) → ((i : ℕ) → i < n → q i ≡ true) → each n q ≡ true
each_true zero q all = refl
each_true (suc n) q all = and_from (q n) (each n q) (all n (omega arith)) (each_true n q (λ i lt. all i (omega arith)))

each_false : (n : ℕ) (q : ℕ → Bool) (i : ℕ) → i < n → q i ≡ false → each n q ≡ false
each_false zero q i lt e = absurd (omega arith)
each_false (suc n) q i lt e = elim (cases_eq i n) [
  | inl s ↦ and_left (q n) (each n q) (ap q (sym s) ∙ e)
  | inr d ↦ and_right (q n) (each n q) (each_false n q i (omega arith) e)
]

-- the octets that port 0 follows
abbrev octets : ℕ → ℕ
octets = cyclic_octet one_flow 1000 0

-- in cycle n, the octet at tick x, if the stretch from u on lasts past x
octet_in : (l n u x : ℕ) → l ≡ 1000 + n * 10000 + x → x < 10000 → u ≤ x → x < (stretch_after one_flow 0 u).until → octets l ≡ (stretch_after one_flow 0 u).octet
unfolding cyclic_octet
octet_in l n u x e lt le before =
    let m : (l - 1000) % 10000 ≡ x = omega arith in
    cond-true (leb 1000 l) (octet_at one_flow 0 ((l - 1000) % 10000)) 0x00 (le-leb 1000 l (omega arith))
    ∙ ap (octet_at one_flow 0) m ∙ octet_stays one_flow 0 u x le before ∙ sym (stretch_octet one_flow 0 u)

-- the gate of class 3 is open from tick 160 of a cycle on, and closed before
open_at : (l n x : ℕ) → l ≡ 1000 + n * 10000 + x → 160 ≤ x → x < 10000 → opens (octets l) 3 ≡ true
unfolding stretch_after
open_at l n x e lo hi = ap (λ (o : ℕ). opens o 3) (octet_in l n 160 x e hi lo hi)

closed_at : (l n x : ℕ) → l ≡ 1000 + n * 10000 + x → x < 160 → opens (octets l) 3 ≡ false
unfolding stretch_after
closed_at l n x e hi = elim (cases_lt x 20) [
  | inl a ↦ ap (λ (o : ℕ). opens o 3) (octet_in l n 0 x e (omega arith) (omega arith) a)
  | inr a ↦ ap (λ (o : ℕ). opens o 3) (octet_in l n 20 x e (omega arith) a hi)
]

-- so a frame of 1,542 ticks finds its gate open long enough at 9,458 and at 11,160, and at no tick between
fits_before : open_for octets 9458 3 1542 ≡ true
fits_before = each_true 1542 (λ i. opens (octets (9458 + i)) 3) (λ i lt. open_at (9458 + i) 0 (8458 + i) (omega arith) (omega arith) (omega arith))

fits_after : open_for octets 11160 3 1542 ≡ true
fits_after = each_true 1542 (λ i. opens (octets (11160 + i)) 3) (λ i lt. open_at (11160 + i) 1 (160 + i) (omega arith) (omega arith) (omega arith))

fits_not : (l : ℕ) → 9459 ≤ l → l < 11160 → open_for octets l 3 1542 ≡ false
fits_not l lo hi = elim (cases_lt l 11000) [
  | inl a ↦ each_false 1542 (λ i. opens (octets (l + i)) 3) (11000 - l) (omega arith) (closed_at (l + (11000 - l)) 1 0 (omega arith) (omega arith))
  | inr a ↦ each_false 1542 (λ i. opens (octets (l + i)) 3) 0 (omega arith) (closed_at (l + 0) 1 (l - 11000) (omega arith) (omega arith))
]

-- the frame, port 0 while it waits there, and port 0 with it on its wire up to before tick u
abbrev frame : Frame
frame = record { octets = 1522; label = 7 }

abbrev waiting : Port (Unit {0})
waiting = record { scheduled = []; ordinary = [] ∷ [] ∷ [] ∷ (frame ∷ []) ∷ [] ∷ [] ∷ [] ∷ []; class = 0; until = 0; selection = tt }

abbrev sending : ℕ → Port (Unit {0})
sending u = record { scheduled = []; ordinary = [] ∷ [] ∷ [] ∷ [] ∷ [] ∷ [] ∷ [] ∷ []; class = 3; until = u; selection = tt }

-- what a port that nothing joins does at tick t once it has chosen
abbrev chose : (ℕ → ℕ) → ℕ → ℕ → Port (Unit {0}) → Option ℕ → Port (Unit {0}) × Option ℕ
chose σ t l x c = (passed one_flow σ strict t l (sent one_flow t x c), flow_sent x c)

-- the choice of a port whose wire has been free from the start, where class 3 alone may be available
abbrev picked : ℕ → Bool → Option ℕ
picked t fits = cond (ltb t 0) None (highest (mask_below 8 (λ c. eqb c 3 && fits)))

picked_none : (t : ℕ) (fits : Bool) → fits ≡ false → picked t fits ≡ None
unfolding mask_below
picked_none t fits e = cond-false (ltb t 0) None (highest (mask_below 8 (λ c. eqb c 3 && fits))) (le-ltb t 0 (omega arith)) ∙ ap (λ (b : Bool). highest (mask_below 8 (λ c. eqb c 3 && b))) e

picked_three : (t : ℕ) (fits : Bool) → fits ≡ true → picked t fits ≡ Some 3
unfolding mask_below count_leading_zeros
picked_three t fits e = cond-false (ltb t 0) None (highest (mask_below 8 (λ c. eqb c 3 && fits))) (le-ltb t 0 (omega arith)) ∙ ap (λ (b : Bool). highest (mask_below 8 (λ c. eqb c 3 && b))) e

-- a port without frames stays as it is
stays_empty : (σ : ℕ → ℕ) (t l p : ℕ) → port_through strict one_flow t (blank ∷ []) σ l p (empty_port tt) ≡ (empty_port tt, None)
unfolding port_through mask_below
stays_empty σ t l p = ap (chose σ t l (empty_port tt)) (picked_none t false refl)

-- port 0 with the frame waiting stays as it is, or puts it on its wire
stays_waiting : (σ : ℕ → ℕ) (t l : ℕ) → open_for σ l 3 1542 ≡ false → port_through strict one_flow t (blank ∷ []) σ l 0 waiting ≡ (waiting, None)
unfolding port_through mask_below
stays_waiting σ t l e = ap (chose σ t l waiting) (picked_none t (open_for σ l 3 1542) e)

goes : (σ : ℕ → ℕ) (t l : ℕ) → open_for σ l 3 1542 ≡ true → port_through strict one_flow t (blank ∷ []) σ l 0 waiting ≡ (sending (t + 1542), None)
unfolding port_through mask_below
goes σ t l e = ap (chose σ t l waiting) (picked_three t (open_for σ l 3 1542) e)

-- the network at tick t, port 0 as named and nothing else in it
abbrev with_port : ℕ → Port (Unit {0}) → Network (Tables (Unit {0}))
with_port t x = record { plan = one_flow; base = 1000; transition = steady; core = record { now = t; rows = blank ∷ []; ports = x ∷ empty_port tt ∷ [] } }

-- a tick of it
one_tick : (t : ℕ) (x y : Port (Unit {0})) → port_through strict one_flow t (blank ∷ []) octets t 0 x ≡ (y, None) → tick (tables exact strict) (with_port t x) ≡ with_port (t + 1) y
unfolding tick ticked_tables
one_tick t x y e =
    ap (λ (a : Port (Unit {0}) × Option ℕ). record { plan = one_flow; base = 1000; transition = steady; core = record { now = t + 1; rows = blank ∷ []; ports = a.0 ∷ (port_through strict one_flow t (blank ∷ []) (cyclic_octet one_flow 1000 1) t 1 (empty_port tt)).0 ∷ [] } }) e
    ∙ ap (λ (a : Port (Unit {0}) × Option ℕ). record { plan = one_flow; base = 1000; transition = steady; core = record { now = t + 1; rows = blank ∷ []; ports = y ∷ a.0 ∷ [] } }) (stays_empty (cyclic_octet one_flow 1000 1) t t 1)

-- ticks through which port 0 stays as it is
ticks_staying : (x : Port (Unit {0})) (t k : ℕ) → ((i : ℕ) → i < k → port_through strict one_flow (t + i) (blank ∷ []) octets (t + i) 0 x ≡ (x, None)) → ticks (tables exact strict) k (with_port t x) ≡ with_port (t + k) x
ticks_staying x t zero same = ap (λ (n : ℕ). with_port n x) (omega arith)
ticks_staying x t (suc k) same =
    ap (tick (tables exact strict)) (ticks_staying x t k (λ i lt. same i (omega arith)))
    ∙ one_tick (t + k) x x (same k (omega arith))
    ∙ ap (λ (n : ℕ). with_port n x) (omega arith)

-- an advance, with the calls after it
advanced : (t k : ℕ) (x : Port (Unit {0})) (m : Network (Tables (Unit {0}))) (cs : List Call) → advance_refused t k ≡ None → ticks (tables exact strict) k (with_port t x) ≡ m
    → replies (tables exact strict) (advance k ∷ cs) (with_port t x) ≡ now_is (t + k) ∷ replies (tables exact strict) cs m
advanced t k x m cs free e =
    ap (λ (o : Option ℕ). elim o [ None ↦ now_is (t + k) | Some j ↦ refused j ] ∷ replies (tables exact strict) cs (elim o [ None ↦ ticks (tables exact strict) k (with_port t x) | Some j ↦ with_port t x ])) free
    ∙ ap (λ (n : Network (Tables (Unit {0}))). now_is (t + k) ∷ replies (tables exact strict) cs n) e

-- the network at tick t with nothing in it
abbrev idle_at : ℕ → Network (Tables (Unit {0}))
idle_at t = with_port t (empty_port tt)

-- an advance of it
idle_advance : (t k : ℕ) (cs : List Call) → advance_refused t k ≡ None → replies (tables exact strict) (advance k ∷ cs) (idle_at t) ≡ now_is (t + k) ∷ replies (tables exact strict) cs (idle_at (t + k))
idle_advance t k cs free = advanced t k (empty_port tt) (idle_at (t + k)) cs free (ticks_staying (empty_port tt) t k (λ i lt. stays_empty octets (t + i) (t + i) 0))

-- queued at 9,458 the frame starts then
pub at_once : StartsAtOnce
at_once =
    idle_advance 1000 8458 (queue 0 3 1522 7 ∷ advance 1 ∷ read_wire 0 ∷ []) refl
    ∙ ap (λ (rs : List Reply). now_is 9458 ∷ queued ∷ rs) (advanced 9458 1 waiting (with_port 9459 (sending 11000)) (read_wire 0 ∷ []) refl (one_tick 9458 waiting (sending 11000) (goes octets 9458 9458 fits_before)))

-- queued at 9,459 it waits until 11,160
pub after_window : StartsLater
after_window =
    idle_advance 1000 8459 (queue 0 3 1522 7 ∷ advance 1701 ∷ read_wire 0 ∷ advance 1 ∷ read_wire 0 ∷ []) refl
    ∙ ap (λ (rs : List Reply). now_is 9459 ∷ queued ∷ rs) (advanced 9459 1701 waiting (with_port 11160 waiting) (read_wire 0 ∷ advance 1 ∷ read_wire 0 ∷ []) refl
    (ticks_staying waiting 9459 1701 (λ i lt. stays_waiting octets (9459 + i) (9459 + i) (fits_not (9459 + i) (omega arith) (omega arith)))))
    ∙ ap (λ (rs : List Reply). now_is 9459 ∷ queued ∷ now_is 11160 ∷ carries None ∷ rs) (advanced 11160 1 waiting (with_port 11161 (sending 12702)) (read_wire 0 ∷ []) refl (one_tick 11160 waiting (sending 12702) (goes octets 11160 11160 fits_after)))

-- changes at 9,438, a tick later, and at 5,000
pub in_time : ChangeAt 8438 9438 1150 (changes_at 11150)
in_time = idle_advance 1000 8438 (change one_flow 1150 ∷ []) refl

pub too_late : ChangeAt 8439 9439 1150 (refused 64)
too_late = idle_advance 1000 8439 (change one_flow 1150 ∷ []) refl

pub within_extension : ChangeAt 4000 5000 21200 (changes_at 21200)
within_extension = idle_advance 1000 4000 (change one_flow 21200 ∷ []) refl

pub beyond_extension : ChangeAt 4000 5000 21201 (refused 63)
beyond_extension = idle_advance 1000 4000 (change one_flow 21201 ∷ []) refl

-- the plan is fit
fit_released : (f : ℕ) → f < 1 → release_of one_flow f < 10000
fit_released zero lt = lit< tt
fit_released (suc f) lt = absurd (omega arith)

fit_routed : (f : ℕ) → f < 1 → 0 < hop_count one_flow f
fit_routed zero lt = lit< tt
fit_routed (suc f) lt = absurd (omega arith)

-- its flow crosses port h at hop h
port_is : (f h : ℕ) → HasHop one_flow f h → (port_at one_flow f h ≡ h) × (h < 2)
port_is zero zero i = (refl, lit< tt)
port_is zero (suc zero) i = (refl, lit< tt)
port_is zero (suc (suc h)) i = absurd (omega arith)
port_is (suc f) h i = absurd (omega arith)

pub fit : Fit one_flow
fit = record {
  good = figures.first_good;
  released = fit_released;
  routed = fit_routed;
  present = λ f h i. (let q = port_is f h i in omega arith);
  once = λ f h k i j e. sym (port_is f h i).0 ∙ e ∙ (port_is f k j).0;
}

-- clocks of which the one of port 1 alone is off
near_but_one : (r t : ℕ) (b : Bool) → Near 10 t r → Near 10 t (cond b r t)
near_but_one r t true n = n
near_but_one r t false n = record { late = omega arith; early = omega arith }

pub near_exact : ClocksNear 10 exact
near_exact p t lo hi = record { late = omega arith; early = omega arith }

pub near_ahead : ClocksNear 10 (ahead_by 10)
near_ahead p t lo hi = near_but_one (t + 10) t (eqb p 1) (record { late = omega arith; early = omega arith })

pub near_behind : ClocksNear 10 (behind_by 10)
near_behind p t lo hi = near_but_one (t - 10) t (eqb p 1) (record { late = omega arith; early = omega arith })

-- strict priority is lawful
pub lawful : Lawful strict
lawful = record { spares = λ s i. omega arith; picks = λ s. highest_picks 0 highest (omega arith) (λ a l. ap highest (sym (left_none a l))) }
