-- A tick keeps the invariant, and does to a flow what a closed form says.
use Rattle.std.proofs.lemmas.Grind.{common_steps}
use Rattle.std.proofs.Common.{◌≡◌, ℕ, zero, suc, ◌+◌, ◌-◌, ◌^◌, ◌<◌, ◌≤◌, Bool, true, false, cond, not, ◌&&◌, eqb, ltb, leb, ◌⊎◌, List, [], ◌∷◌, ◌++◌, map, get_or, take, Some, None, Option, sym, refl, ap, ◌∙◌, subst, inl, inr, arith}
use Rattle.std.specs.List.{AllByRecursion}
use Rattle.std.proofs.lemmas.Bool.{cases_order, cases_Bool, cases_lt, cases_eq, and_parts, ltb-false, eqb-true, le-leb, lt-leb, lt-ltb, eq-eqb, ne_eqb, le-ltb, both_ways, not-true, cond-true, cond-false, false≢true}
use Rattle.schedule.specs.Plan.{Plan, flow_count, hop_count, release_of, port_at, offset_at, wire_of, delay_of}
use Rattle.gates.specs.Timetable.{Transition, timetable}
use Rattle.egress.specs.declared.ordinary.Frame.{Frame}
use Rattle.egress.specs.Waiting.{front, rest}
use Rattle.network.specs.declared.flight.Flight.{Flight}
use Rattle.network.specs.declared.flight.Flight.TheVariants.{Idle, Waiting, Moving}
use Rattle.network.specs.Windows.{cycle_begin, begin_of, Occurs}
use Rattle.network.specs.Lawful.{ClocksNear, Meaning, Lawful, port_count}
use Rattle.network.specs.Flows.{has_next, landed, joins, arrives, span, is_flow, departed}
use Rattle.network.specs.Ports.{at_place, listed, time_of, chosen, sent, flow_sent}
use Rattle.network.specs.Functions.{Core, after_joining, choice, ticked}
use Rattle.network.specs.Guarantee.{NotYet, First, OnTime, due}
use Rattle.network.proofs.Turns.{apart, one_window}
use Rattle.network.proofs.Facts.{Facts}
use Rattle.network.proofs.Certified.{least_is, greatest_is, release_le}
use Rattle.network.proofs.Inv.{FlightOk, WaitsAt, LineOk, WireOk, Short, Inv}
use Rattle.network.proofs.Starts.{turn_of, time_7, time_none, not_late, starts_when, only_then, chosen_is}

listed_cases : (n : ℕ) (q : ℕ → Bool) → ((f g : ℕ) → f < n → g < n → q f ≡ true → q g ≡ true → f ≡ g)
    → ((listed n q ≡ []) × ((f : ℕ) → f < n → q f ≡ true → ⊥)) ⊎ ((f : ℕ) × (f < n) × (q f ≡ true) × (listed n q ≡ f ∷ []))
listed_cases zero q one = inl (refl, λ f h e. omega arith)
listed_cases (suc n) q one = elim (cases_Bool (q n)) [
  | inl e ↦ elim (listed_cases n q (λ f g a b. one f g (omega arith) (omega arith))) [
    | inl k ↦ inr (n, omega arith, e, rw (e, k.0) refl)
    | inr k ↦ absurd (omega (arith, one k.0 n (omega (arith, k.1)) (omega arith) k.2 e))
  ]
  | inr e ↦ elim (listed_cases n q (λ f g a b. one f g (omega arith) (omega arith))) [
    | inl k ↦ inl (rw (e, k.0) refl, λ f h s. elim (cases_eq f n) [ inl c ↦ both_ways (q n) e (rw c at s) | inr c ↦ k.1 f (omega arith) s ])
    | inr k ↦ inr (k.0, omega (arith, k.1), k.2, rw (e, k.3) refl)
  ]
]

leb_same : (a b c d : ℕ) → (a ≤ b → c ≤ d) → (c ≤ d → a ≤ b) → leb a b ≡ leb c d
leb_same a b c d h k = grind (arith, common_steps, lt-leb, le-leb)

-- the element at a place of a list with another one altered
at_same : {A : Type 0} (g : A → A) (d : A) (k : ℕ) (xs : List A) → g d ≡ d → get_or (at_place k g xs) k d ≡ g (get_or xs k d)
at_same g d k [] e = sym e
at_same g d zero (x ∷ xs) e = refl
at_same g d (suc k) (x ∷ xs) e = at_same g d k xs e

at_other : {A : Type 0} (g : A → A) (d : A) (k c : ℕ) (xs : List A) → (c ≡ k → ⊥) → get_or (at_place k g xs) c d ≡ get_or xs c d
at_other g d k c [] e = refl
at_other g d zero zero (x ∷ xs) e = absurd (e refl)
at_other g d zero (suc c) (x ∷ xs) e = refl
at_other g d (suc k) zero (x ∷ xs) e = refl
at_other g d (suc k) (suc c) (x ∷ xs) e = at_other g d k c xs (λ q. e (ap suc q))

-- what holds of the element at a place, altered or not, holds after
pub at_place_all : {A : Type 0} (Q : A → Type 0) (g : A → A) (d : A) (k c : ℕ) (xs : List A) → g d ≡ d → Q (g (get_or xs c d)) → Q (get_or xs c d) → Q (get_or (at_place k g xs) c d)
at_place_all Q g d k c xs e a b = elim (cases_eq c k) [
  | inl q ↦ subst Q (sym (ap (λ j. get_or (at_place k g xs) j d) q ∙ at_same g d k xs e ∙ ap (λ j. g (get_or xs j d)) (sym q))) a
  | inr q ↦ subst Q (sym (at_other g d k c xs q)) b
]

-- whether the frame of flow f that waits at hop h starts at tick t; and what becomes of it
abbrev pub goes : Plan → (ℕ → ℕ → ℕ) → ℕ → ℕ → ℕ → ℕ → Bool
goes P ρ t f h u = leb (u + offset_at P f h) (ρ (port_at P f h) t + release_of P f)

abbrev pub went : Plan → (ℕ → ℕ → ℕ) → ℕ → ℕ → Flight → Flight
went P ρ t f Idle = Idle
went P ρ t f (Waiting h u) = cond (goes P ρ t f h u) (Moving h u (t + wire_of P f + delay_of P (port_at P f h))) (Waiting h u)
went P ρ t f (Moving h u a) = Moving h u a

-- the log of deliveries after step 1
abbrev pub logged : Plan → ℕ → ℕ → Flight → List (ℕ × ℕ) → List (ℕ × ℕ)
logged P t f x l = cond (arrives P t f x) (span x ∷ l) l

module _ (P : Plan) (B : ℕ) (tr : Transition) (ρ : ℕ → ℕ → ℕ) (F : Facts P B tr) (low : P.error ≤ B) (near : ClocksNear P.error ρ) where
  -- step 1 keeps what is known of a frame
  landed_ok : (t f : ℕ) → t < 2 ^ 48 → f < flow_count P → (x : Flight) → FlightOk P B tr ρ t t f x → FlightOk P B tr ρ t (t + 1) f (landed P t f x)
  landed_ok t f lim fi Idle ok = tt
  landed_ok t f lim fi (Waiting h u) ok = ok
  landed_ok t f lim fi (Moving h u a) m = elim (cases_eq a t) [
    | inl e ↦ rw (eq-eqb a t e) (elim (cases_lt (suc h) (hop_count P f)) [
      | inr l ↦ rw (le-ltb (suc h) (hop_count P f) l) tt
      | inl hi ↦ rw (lt-ltb (suc h) (hop_count P f) hi) (
          let r = (F.fit.good f fi (suc h) hi).reached in
          let sl = not_late P B tr ρ F low near (port_at P f h) (cycle_begin P B m.cycles + offset_at P f h) m.start (omega arith) m.first.not_before in
          record { cycles = m.cycles; counts = m.counts; hop_in = hi; released = m.released; reached = omega (arith, m.first.from); not_yet = λ s w k. absurd (omega arith) })
    ])
    | inr e ↦ rw (ne_eqb a t e) (record { cycles = m.cycles; counts = m.counts; start = m.start; hop_in = m.hop_in; released = m.released; first = m.first; started = m.started; arrives = m.arrives; yet = omega (arith, m.yet) })
  ]

  -- at most one flow waits at a port
  pub one_waits : (t t' p f g : ℕ) → t ≤ 2 ^ 48 → f < flow_count P → g < flow_count P → (x y : Flight) → FlightOk P B tr ρ t t' f x → FlightOk P B tr ρ t t' g y → WaitsAt P B tr ρ p f x → WaitsAt P B tr ρ p g y → f ≡ g
  one_waits t t' p f g lim fi gi Idle y a b c d = absurd c
  one_waits t t' p f g lim fi gi (Moving _ _ _) y a b c d = absurd c
  one_waits t t' p f g lim fi gi (Waiting h u) Idle a b c d = absurd d
  one_waits t t' p f g lim fi gi (Waiting h u) (Moving _ _ _) a b c d = absurd d
  one_waits t t' p f g lim fi gi (Waiting h u) (Waiting k v) a b c d =
      let i = turn_of P p f h a.cycles fi a.hop_in c in
      let j = turn_of P p g k b.cycles gi b.hop_in d in
      let la = not_late P B tr ρ F low near (port_at P f h) (begin_of P B p i) t (omega arith) a.not_yet in
      let lb = not_late P B tr ρ F low near (port_at P g k) (begin_of P B p j) t (omega arith) b.not_yet in
      elim (cases_order (begin_of P B p i) (begin_of P B p j)) [
        | inl e ↦ one_window P B F.fit i j e
        | inr (inl l) ↦ absurd (omega (arith, apart P B F.fit i j l, b.reached))
        | inr (inr l) ↦ absurd (omega (arith, apart P B F.fit j i l, a.reached))
      ]

  -- step 2, by the closed form
  went_ok : (t f : ℕ) → B ≤ t → t < 2 ^ 48 → f < flow_count P → (x : Flight) → FlightOk P B tr ρ t (t + 1) f x → FlightOk P B tr ρ (t + 1) (t + 1) f (went P ρ t f x)
  went_ok t f from lim fi Idle ok = tt
  went_ok t f from lim fi (Moving h u a) m = record { cycles = m.cycles; counts = m.counts; start = m.start; hop_in = m.hop_in; released = m.released; first = m.first; started = omega (arith, m.started); arrives = m.arrives; yet = m.yet }
  went_ok t f from lim fi (Waiting h u) w =
      let p = port_at P f h in
      let k = near p t (omega arith) (omega arith) in
      let ru = w.released in
      elim (cases_lt (ρ p t + release_of P f) (u + offset_at P f h)) [
        | inl l ↦ rw (lt-leb (u + offset_at P f h) (ρ p t + release_of P f) l) (record {
          cycles = w.cycles;
          counts = w.counts;
          hop_in = w.hop_in;
          released = w.released;
          reached = omega (arith, w.reached);
          not_yet = λ s a b. elim (cases_eq s t) [ inl e ↦ rw e (omega arith) | inr e ↦ w.not_yet s a (omega arith) ];
        })
        | inr l ↦ rw (le-leb (u + offset_at P f h) (ρ p t + release_of P f) l) (record {
          cycles = w.cycles;
          counts = w.counts;
          start = t;
          hop_in = w.hop_in;
          released = w.released;
          first = record { from = omega arith; reads = omega arith; not_before = w.not_yet };
          started = omega arith;
          arrives = refl;
          yet = omega arith;
        })
      ]

  -- who joins a line waits there, and was not there
  joins_waits : (t p f : ℕ) (x : Flight) → joins P t p f x ≡ true → WaitsAt P B tr ρ p f (landed P t f x)
  joins_waits t p f Idle e = absurd (false≢true e)
  joins_waits t p f (Waiting h u) e = absurd (false≢true e)
  joins_waits t p f (Moving h u a) e =
      let (a1, b1) = and_parts (eqb a t) (has_next P f h && eqb (port_at P f (suc h)) p) e in
      let (a2, b2) = and_parts (has_next P f h) (eqb (port_at P f (suc h)) p) b1 in
      rw (a1, a2) (eqb-true (port_at P f (suc h)) p b2)

  landed_waits : (t p f : ℕ) (x : Flight) → WaitsAt P B tr ρ p f (landed P t f x) → WaitsAt P B tr ρ p f x ⊎ (joins P t p f x ≡ true)
  landed_waits t p f Idle w = inl w
  landed_waits t p f (Waiting h u) w = inl w
  landed_waits t p f (Moving h u a) w = go (eqb a t) (has_next P f h) w
    where
      go : (b c : Bool) → WaitsAt P B tr ρ p f (cond b (cond c (Waiting (suc h) u) Idle) (Moving h u a)) → ⊥ ⊎ ((b && (c && eqb (port_at P f (suc h)) p)) ≡ true)
      go true true w = inr (eq-eqb (port_at P f (suc h)) p w)
      go true false w = inl w
      go false c w = inl w

  stays : (t p f : ℕ) (x : Flight) → WaitsAt P B tr ρ p f x → WaitsAt P B tr ρ p f (landed P t f x)
  stays t p f Idle w = w
  stays t p f (Waiting h u) w = w
  stays t p f (Moving h u a) w = absurd w

  not_both : (t p f : ℕ) (x : Flight) → WaitsAt P B tr ρ p f x → joins P t p f x ≡ true → ⊥
  not_both t p f Idle w e = w
  not_both t p f (Waiting h u) w e = false≢true e
  not_both t p f (Moving h u a) w e = w

  -- step 2 and a frame that waits at port p: it stays if the port does not start it, is gone if it does, and none is new
  departed_waits : (t p f : ℕ) (go : ℕ → Option ℕ) (x : Flight) → WaitsAt P B tr ρ p f (departed P t go f x) → WaitsAt P B tr ρ p f x
  departed_waits t p f go Idle w = w
  departed_waits t p f go (Waiting h u) w = by (is_flow (go (port_at P f h)) f) w
    where
      by : (b : Bool) → WaitsAt P B tr ρ p f (cond b (Moving h u (t + wire_of P f + delay_of P (port_at P f h))) (Waiting h u)) → port_at P f h ≡ p
      by true w = absurd w
      by false w = w
  departed_waits t p f go (Moving h u a) w = w

  waits_on : (t p f : ℕ) (go : ℕ → Option ℕ) (x : Flight) → WaitsAt P B tr ρ p f x → is_flow (go p) f ≡ false → WaitsAt P B tr ρ p f (departed P t go f x)
  waits_on t p f go Idle w e = w
  waits_on t p f go (Waiting h u) w e = rw (ap (λ q. is_flow (go q) f) w ∙ e) w
  waits_on t p f go (Moving h u a) w e = w

  gone : (t p f : ℕ) (go : ℕ → Option ℕ) (x : Flight) → WaitsAt P B tr ρ p f x → is_flow (go p) f ≡ true → WaitsAt P B tr ρ p f (departed P t go f x) → ⊥
  gone t p f go Idle w e v = v
  gone t p f go (Waiting h u) w e v = rw (ap (λ q. is_flow (go q) f) w ∙ e) at v
  gone t p f go (Moving h u a) w e v = v

  -- the logs
  due_went : (t f : ℕ) (x : Flight) (l : List ℕ) → due (went P ρ t f x) l ≡ due x l
  due_went t f Idle l = refl
  due_went t f (Waiting h u) l = elim (cases_Bool (goes P ρ t f h u)) [ inl e ↦ rw e refl | inr e ↦ rw e refl ]
  due_went t f (Moving h u a) l = refl

  due_landed : (t f : ℕ) (x : Flight) (l : List (ℕ × ℕ)) → due (landed P t f x) (map (λ (d : ℕ × ℕ). d.0) (logged P t f x l)) ≡ due x (map (λ (d : ℕ × ℕ). d.0) l)
  due_landed t f Idle l = refl
  due_landed t f (Waiting h u) l = refl
  due_landed t f (Moving h u a) l = by (eqb a t) (has_next P f h)
    where
      by : (b c : Bool) → due (cond b (cond c (Waiting (suc h) u) Idle) (Moving h u a)) (map (λ (d : ℕ × ℕ). d.0) (cond (b && not c) ((u, a) ∷ l) l)) ≡ u ∷ map (λ (d : ℕ × ℕ). d.0) l
      by true true = refl
      by true false = refl
      by false c = refl

  on_time_landed : (t f : ℕ) → t < 2 ^ 48 → f < flow_count P → (x : Flight) → FlightOk P B tr ρ t t f x → (l : List (ℕ × ℕ)) → AllByRecursion (λ (d : ℕ × ℕ). OnTime P ρ f d.0 d.1) l
      → AllByRecursion (λ (d : ℕ × ℕ). OnTime P ρ f d.0 d.1) (logged P t f x l)
  on_time_landed t f lim fi Idle ok l a = a
  on_time_landed t f lim fi (Waiting h u) ok l a = a
  on_time_landed t f lim fi (Moving h u r) m l a = elim (cases_Bool (eqb r t && not (has_next P f h))) [
    | inr e ↦ rw e a
    | inl e ↦ rw e (
        let (e1, e2) = and_parts (eqb r t) (not (has_next P f h)) e in
        let W = cycle_begin P B m.cycles + offset_at P f h in
        let at = eqb-true r t e1 in
        let last : suc h ≡ hop_count P f = omega (arith, ltb-false (suc h) (hop_count P f) (not-true (has_next P f h) e2), m.hop_in) in
        let sl = not_late P B tr ρ F low near (port_at P f h) W m.start (omega (arith, m.started)) m.first.not_before in
        let ru = m.released in let ar = m.arrives in let fr = m.first.from in
        let rl = release_le P F.fit f fi h m.hop_in in
        let cl = least_is P f h last in let cg = greatest_is P f h last in
        (record { hop = h; window = W; start = m.start; last = last; opens = omega arith; first = m.first; arrival = m.arrives; least = omega arith; greatest = omega arith }, a))
  ]

  module _ {S : Type 0} (n : Core S) (inv : Inv P B tr ρ n) (lim : n.now < 2 ^ 48) where
    mid : (f : ℕ) → f < flow_count P → FlightOk P B tr ρ n.now (n.now + 1) f (landed P n.now f (n.flight f))
    mid f fi = landed_ok n.now f lim fi (n.flight f) (inv.flights f fi)

    one : (p f g : ℕ) → f < flow_count P → g < flow_count P → WaitsAt P B tr ρ p f (landed P n.now f (n.flight f)) → WaitsAt P B tr ρ p g (landed P n.now g (n.flight g)) → f ≡ g
    one p f g fi gi a b = one_waits n.now (n.now + 1) p f g (omega arith) fi gi (landed P n.now f (n.flight f)) (landed P n.now g (n.flight g)) (mid f fi) (mid g gi) a b

    abbrev joining : ℕ → List ℕ
    joining p = listed (flow_count P) (λ f. joins P n.now p f (n.flight f))

    joined_ok : (p : ℕ) → LineOk P B tr ρ (λ f. landed P n.now f (n.flight f)) p (after_joining P n p).scheduled
    joined_ok p =
        let jw = λ (f : ℕ). joins_waits n.now p f (n.flight f) in
        elim (listed_cases (flow_count P) (λ f. joins P n.now p f (n.flight f)) (λ f g fi gi a b. one p f g fi gi (jw f a) (jw g b))) [
          | inl j ↦ elim (inv.lines p) [
            | inl l ↦ inl ((λ i. take 16 (l.0 i ++ j.0 i)), λ f fi w. elim (landed_waits n.now p f (n.flight f) w) [ inl v ↦ l.1 f fi v | inr v ↦ j.1 f fi v ])
            | inr l ↦ inr (l.0, l.1, stays n.now p l.0 (n.flight l.0) l.2, (λ i. take 16 (l.3 i ++ j.0 i)))
          ]
          | inr j ↦ elim (inv.lines p) [
            | inl l ↦ inr (j.0, j.1, jw j.0 j.2, (λ i. take 16 (l.0 i ++ j.3 i)))
            | inr l ↦ absurd (
                let e = one p l.0 j.0 l.1 j.1 (stays n.now p l.0 (n.flight l.0) l.2) (jw j.0 j.2) in
                not_both n.now p l.0 (n.flight l.0) l.2 (rw (← e) at j.2))
          ]
        ]

    -- the line of a port where flow f waits
    line_of : (p f : ℕ) → f < flow_count P → WaitsAt P B tr ρ p f (landed P n.now f (n.flight f)) → (after_joining P n p).scheduled ≡ f ∷ []
    line_of p f fi w = elim (joined_ok p) [ inl l ↦ absurd (l.1 f fi w) | inr l ↦ l.3 ∙ ap (λ g. g ∷ []) (one p l.0 f l.1 fi l.2 w) ]

    module _ (K : Meaning S) (law : Lawful K) where
      abbrev picks : ℕ → Option ℕ
      picks p = choice ρ K P (timetable P B tr) n p

      abbrev own_choice : ℕ → Option ℕ
      own_choice p = chosen P (timetable P B tr p) K n.now (ρ p n.now) (after_joining P n p)

      -- a port that is there chooses by its selection; and what is chosen is
      at_port : (p : ℕ) → p < port_count P → picks p ≡ own_choice p
      at_port p h = cond-true (ltb p (port_count P)) (own_choice p) None (lt-ltb p (port_count P) h)

      picks_own : (p c : ℕ) → picks p ≡ Some c → own_choice p ≡ Some c
      picks_own p c e = grind (arith, common_steps, at_port, cond-false, le-ltb)

      abbrev begun : ℕ → Option ℕ
      begun p = flow_sent (after_joining P n p) (picks p)

      depart : (f : ℕ) → f < flow_count P → (x : Flight) → FlightOk P B tr ρ n.now (n.now + 1) f x → ((p : ℕ) → WaitsAt P B tr ρ p f x → (after_joining P n p).scheduled ≡ f ∷ [])
          → departed P n.now begun f x ≡ went P ρ n.now f x
      depart f fi Idle ok l = refl
      depart f fi (Moving h u a) ok l = refl
      depart f fi (Waiting h u) w l =
          let p = port_at P f h in
          let i = turn_of P p f h w.cycles fi w.hop_in refl in
          let claim = starts_when P B tr ρ F low near n.now inv.base lim i w.counts w.reached w.not_yet (after_joining P n p) (l p refl) (inv.wires p) K law in
          let ru = w.released in
          let same = leb_same (begin_of P B p i) (ρ p n.now) (u + offset_at P f h) (ρ p n.now + release_of P f) (λ h. omega arith) (λ h. omega arith) in
          ap (λ b. cond b (Moving h u (n.now + wire_of P f + delay_of P p)) (Waiting h u))
          (ap (λ v. is_flow (flow_sent (after_joining P n p) v) f) (at_port p (F.fit.present f h (fi, w.hop_in))) ∙ claim ∙ same)

      -- the closed form of a tick
      pub tick_flight : (f : ℕ) → (ticked ρ K P (timetable P B tr) n).flight f ≡ went P ρ n.now f (landed P n.now f (n.flight f))
      unfolding ticked
      tick_flight f = elim (cases_lt f (flow_count P)) [
        | inl fi ↦ depart f fi (landed P n.now f (n.flight f)) (mid f fi) (λ p w. line_of p f fi w)
        | inr fo ↦ absent (n.flight f) (inv.absent f fo)
      ]
        where
          absent : (x : Flight) → x ≡ Idle → departed P n.now begun f (landed P n.now f x) ≡ went P ρ n.now f (landed P n.now f x)
          absent x e = rw e refl

      tick_lines : (p : ℕ) → LineOk P B tr ρ (ticked ρ K P (timetable P B tr) n).flight p ((ticked ρ K P (timetable P B tr) n).port p).scheduled
      unfolding ticked
      tick_lines p = elim (joined_ok p) [
        | inl l ↦ inl (empty (picks p) l.0, λ f fi w. l.1 f fi (departed_waits n.now p f begun (landed P n.now f (n.flight f)) w))
        | inr l ↦ full l.0 l.1 l.2 l.3 (picks p) refl
      ]
        where
          empty : (v : Option ℕ) → (after_joining P n p).scheduled ≡ [] → (sent P n.now (after_joining P n p) v).scheduled ≡ []
          empty None e = e
          empty (Some c) e = by (eqb c 7) (after_joining P n p).scheduled e
            where
              by : (b : Bool) (l : List ℕ) → l ≡ [] → cond b (rest l) l ≡ []
              by true l e = ap rest e
              by false l e = e

          full : (f : ℕ) → f < flow_count P → WaitsAt P B tr ρ p f (landed P n.now f (n.flight f)) → (after_joining P n p).scheduled ≡ f ∷ [] → (v : Option ℕ) → picks p ≡ v
              → LineOk P B tr ρ (λ f. departed P n.now begun f (landed P n.now f (n.flight f))) p (sent P n.now (after_joining P n p) v).scheduled
          full f fi w l None e = inr (f, fi, waits_on n.now p f begun (landed P n.now f (n.flight f)) w (ap (λ v. is_flow (flow_sent (after_joining P n p) v) f) e), l)
          full f fi w l (Some c) e =
              let g : is_flow (begun p) f ≡ is_flow (cond (eqb c 7) (front (f ∷ [])) None) f
              = ap (λ v. is_flow (flow_sent (after_joining P n p) v) f) e ∙ ap (λ l. is_flow (cond (eqb c 7) (front l) None) f) l in
              elim (cases_Bool (eqb c 7)) [
                | inl q ↦ inl (
                  ap (λ b. cond b (rest (after_joining P n p).scheduled) (after_joining P n p).scheduled) q ∙ ap rest l,
                  λ h hi v.
                      let d = departed_waits n.now p h begun (landed P n.now h (n.flight h)) v in
                      let s = one p h f hi fi d w in
                      gone n.now p f begun (landed P n.now f (n.flight f)) w (g ∙ ap (λ b. is_flow (cond b (Some f) None) f) q ∙ eq-eqb f f refl)
                      (subst (λ h. WaitsAt P B tr ρ p h (departed P n.now begun h (landed P n.now h (n.flight h)))) s v),
                )
                | inr q ↦ inr (
                  f,
                  fi,
                  waits_on n.now p f begun (landed P n.now f (n.flight f)) w (g ∙ ap (λ b. is_flow (cond b (Some f) None) f) q),
                  ap (λ b. cond b (rest (after_joining P n p).scheduled) (after_joining P n p).scheduled) q ∙ l,
                )
              ]

      -- a scheduled frame that starts is that of the window that has begun
      starts_first : (p f : ℕ) → f < flow_count P → (x : Flight) → FlightOk P B tr ρ n.now (n.now + 1) f x → WaitsAt P B tr ρ p f x → (after_joining P n p).scheduled ≡ f ∷ [] → own_choice p ≡ Some 7
          → (W : ℕ) × Occurs P B tr p W (wire_of P f) × First P.error (ρ p) W n.now
      starts_first p f fi Idle ok w l e = absurd w
      starts_first p f fi (Moving h u a) ok w l e = absurd w
      starts_first p f fi (Waiting h u) ok w l e =
          let i = turn_of P p f h ok.cycles fi ok.hop_in w in
          let ny : NotYet P.error (ρ p) (begin_of P B p i) n.now = subst (λ q. NotYet P.error (ρ q) (begin_of P B p i) n.now) w ok.not_yet in
          let r = only_then P B tr ρ F low near n.now inv.base lim i ok.counts ok.reached ny (after_joining P n p) l (inv.wires p) K law e in
          let k = near p n.now (omega (arith, inv.base)) (omega arith) in
          (begin_of P B p i, F.own i ok.counts, record { from = omega arith; reads = r; not_before = ny })

      small_time : (p c : ℕ) → (c ≡ 7 → ⊥) → time_of P (after_joining P n p) c ≤ 1542
      small_time p c q = grind (arith, common_steps, inv, ne_eqb)

      tick_wires : (p : ℕ) → WireOk P B tr ρ (n.now + 1) p ((ticked ρ K P (timetable P B tr) n).port p).class ((ticked ρ K P (timetable P B tr) n).port p).until
      unfolding ticked
      tick_wires p = by (picks p) refl
        where
          by : (v : Option ℕ) → picks p ≡ v → WireOk P B tr ρ (n.now + 1) p (sent P n.now (after_joining P n p) v).class (sent P n.now (after_joining P n p) v).until
          by None e = let w = inv.wires p in record {
            sched = λ c u. (let (W, v, occ, s, first, s_t, b) = w.sched c (omega arith) in (W, v, occ, s, first, omega arith, b));
            clear = λ c s a. w.clear c s (omega arith);
            short = λ c. omega (arith, w.short c);
          }
          by (Some c) e =
              let (c8, some, opened) = chosen_is P (timetable P B tr p) n.now (ρ p n.now) (after_joining P n p) K law c (picks_own p c e) in
              elim (cases_eq c 7) [
                | inl q ↦ record {
                  sched = λ _ u. elim (joined_ok p) [
                    | inl l ↦ absurd (omega (arith, ap (time_of P (after_joining P n p)) q ∙ time_none P (after_joining P n p) l.0))
                    | inr l ↦ (let (W, occ, first) = starts_first p l.0 l.1 (landed P n.now l.0 (n.flight l.0)) (mid l.0 l.1) l.2 l.3 (picks_own p c e ∙ ap Some q) in
                        (W, wire_of P l.0, occ, n.now, first, omega arith, omega (arith, ap (time_of P (after_joining P n p)) q ∙ time_7 P (after_joining P n p) l.0 [] l.3)))
                  ];
                  clear = λ d. absurd (d q);
                  short = λ d. absurd (d q);
                }
                | inr q ↦ record {
                  sched = λ d. absurd (q d);
                  clear = λ _ s a b busy.
                      let k = near p n.now (omega (arith, inv.base)) (omega arith) in
                      let (W, w, occ, x, y) = busy in
                      F.other p (ρ p n.now + (s - n.now)) c W w (omega arith) (opened (s - n.now) (omega arith)) occ (omega arith) (omega arith);
                  short = λ _. omega (arith, small_time p c q);
                }
              ]

      tick_small : (p c : ℕ) → Short P B tr ρ (get_or ((ticked ρ K P (timetable P B tr) n).port p).ordinary c [])
      unfolding ticked
      tick_small p c = by (picks p)
        where
          after_rest : (l : List Frame) → Short P B tr ρ l → Short P B tr ρ (rest l)
          after_rest [] a = a
          after_rest (x ∷ l) a = a.1

          by : (v : Option ℕ) → Short P B tr ρ (get_or (sent P n.now (after_joining P n p) v).ordinary c [])
          by None = inv.small p c
          by (Some d) = at_place_all (Short P B tr ρ) rest [] d c (n.port p).ordinary refl (after_rest (get_or (n.port p).ordinary c []) (inv.small p c)) (inv.small p c)

      pub tick_inv : Inv P B tr ρ (ticked ρ K P (timetable P B tr) n)
      unfolding ticked
      tick_inv = record {
        base = omega (arith, inv.base);
        top = omega arith;
        flights = λ f fi. subst (FlightOk P B tr ρ (n.now + 1) (n.now + 1) f) (sym (tick_flight f)) (went_ok n.now f inv.base lim fi (landed P n.now f (n.flight f)) (mid f fi));
        lines = tick_lines;
        wires = tick_wires;
        small = tick_small;
        absent = λ f fo. tick_flight f ∙ ap (λ x. went P ρ n.now f (landed P n.now f x)) (inv.absent f fo);
        once = λ f fi. inv.once f fi ∙ sym (ap (λ x. due x (map (λ (d : ℕ × ℕ). d.0) (logged P n.now f (n.flight f) (n.arrived f)))) (tick_flight f)
            ∙ due_went n.now f (landed P n.now f (n.flight f)) (map (λ (d : ℕ × ℕ). d.0) (logged P n.now f (n.flight f) (n.arrived f)))
            ∙ due_landed n.now f (n.flight f) (n.arrived f));
        on_time = λ f fi. on_time_landed n.now f lim fi (n.flight f) (inv.flights f fi) (n.arrived f) (inv.on_time f fi);
      }
