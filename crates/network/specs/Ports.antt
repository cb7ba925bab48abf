-- What a port holds, and what a tick does to it.
use Rattle.std.specs.Prelude.{ℕ, zero, suc, ◌+◌, ◌-◌, ◌^◌, Bool, cond, ◌&&◌, List, [], ◌∷◌, ◌++◌, length, take, replicate, Some, None, Option, ◌==◌, nat_lt, slice_index_or}
use Rattle.schedule.specs.Plan.{Plan, wire_of}
use Rattle.gates.specs.Timetable.{open_for}
use Rattle.egress.specs.declared.ordinary.Frame.{Frame}
use Rattle.egress.specs.Waiting.{front, rest}
use Rattle.network.specs.declared.flight.Flight.{Flight}
use Rattle.network.specs.Lawful.{Meaning}
use Rattle.network.specs.Flows.{joins}

-- a port: the flows whose frames wait in line 7, the frames that wait in each of the lines 0 to 6, the class put on the wire last and the first tick at which the wire is free again, and its selection
pub record Port (S : Type 0) : Type 0 where
  pub scheduled : List ℕ
  pub ordinary : List (List Frame)
  pub class : ℕ
  pub until : ℕ
  pub selection : S

-- a port of a new network
abbrev pub empty_port : {S : Type 0} → S → Port S
empty_port s = record { scheduled = []; ordinary = replicate 7 []; class = 0; until = 0; selection = s }

-- the set of the classes below n that a test admits, as a mask
unfoldable pub mask_below : ℕ → (ℕ → Bool) → ℕ
mask_below zero a = 0
mask_below (suc n) a = mask_below n a + cond (a n) (2 ^ n) 0

-- the set of the classes that a test admits
abbrev pub mask_of : (ℕ → Bool) → ℕ
mask_of a = mask_below 8 a

-- g of the element at place k, the others as they are
abbrev pub at_place : {A : Type 0} → ℕ → (A → A) → List A → List A
at_place k g [] = []
at_place zero g (x ∷ xs) = g x ∷ xs
at_place (suc k) g (x ∷ xs) = x ∷ at_place k g xs

-- the numbers below n that a test admits, in order
abbrev pub listed : ℕ → (ℕ → Bool) → List ℕ
listed zero q = []
listed (suc n) q = listed n q ++ cond (q n) (n ∷ []) []

-- the line 7 of a port takes up to 16
abbrev pub joined_by : List ℕ → {S : Type 0} → Port S → Port S
joined_by fs x = record { scheduled = take 16 (x.scheduled ++ fs); ordinary = x.ordinary; class = x.class; until = x.until; selection = x.selection }

-- step 1 of tick t at port p, with the frames of n flows: those that reach it join, the lower flow first
abbrev pub joined : Plan → ℕ → ℕ → (ℕ → Flight) → ℕ → {S : Type 0} → Port S → Port S
joined P t n flight p x = joined_by (listed n (λ f. joins P t p f (flight f))) x

-- the wire time of the first of those that wait, 0 if none does
abbrev pub time_of_first : {A : Type 0} → (A → ℕ) → List A → ℕ
time_of_first g [] = 0
time_of_first g (x ∷ xs) = g x

-- the wire time of an ordinary frame
abbrev pub frame_time : Frame → ℕ
frame_time x = x.octets + 20

-- the wire time of the first frame of class c, 0 if none waits
abbrev pub time_of : Plan → {S : Type 0} → Port S → ℕ → ℕ
time_of P x c = cond (c == 7) (time_of_first (wire_of P) x.scheduled) (time_of_first frame_time (slice_index_or x.ordinary c []))

-- frames of class c wait
abbrev pub waits : Plan → {S : Type 0} → Port S → ℕ → Bool
waits P x c = nat_lt 0 (time_of P x c)

-- class c is available at local tick l: a frame waits, and by the port's octets its gate is open as long as the first one takes
abbrev pub available : Plan → (ℕ → ℕ) → ℕ → {S : Type 0} → Port S → ℕ → Bool
available P octets l x c = waits P x c && open_for octets l c (time_of P x c)

-- step 2 of tick t: a port whose wire is free asks its selection, with the classes available at its reading l
abbrev pub chosen : Plan → (ℕ → ℕ) → {S : Type 0} → Meaning S → ℕ → ℕ → Port S → Option ℕ
chosen P octets K t l x = cond (nat_lt t x.until) None (K.pick x.selection (mask_of (available P octets l x)))

-- the first frame of the class chosen goes on the wire
abbrev pub sent : Plan → ℕ → {S : Type 0} → Port S → Option ℕ → Port S
sent P t x None = x
sent P t x (Some c) = record { scheduled = cond (c == 7) (rest x.scheduled) x.scheduled; ordinary = at_place c rest x.ordinary; class = c; until = t + time_of P x c; selection = x.selection }

-- the flow whose frame goes on the wire, if the class chosen is 7
abbrev pub flow_sent : {S : Type 0} → Port S → Option ℕ → Option ℕ
flow_sent x None = None
flow_sent x (Some c) = cond (c == 7) (front x.scheduled) None

-- the class on the wire at tick t
abbrev pub on_wire : ℕ → {S : Type 0} → Port S → Option ℕ
on_wire t x = cond (nat_lt t x.until) (Some x.class) None

-- step 3 of tick t: the selection is passed the class on the wire, the classes with frames waiting, and the gates at its reading l
abbrev pub passed : Plan → (ℕ → ℕ) → {S : Type 0} → Meaning S → ℕ → ℕ → Port S → Port S
passed P octets K t l x = record {
  scheduled = x.scheduled;
  ordinary = x.ordinary;
  class = x.class;
  until = x.until;
  selection = K.passed x.selection (on_wire t x) (mask_of (waits P x)) (octets l);
}

-- a frame joins the line of an ordinary class
abbrev pub with_frame : ℕ → Frame → {S : Type 0} → Port S → Port S
with_frame c frame x = record { scheduled = x.scheduled; ordinary = at_place c (λ line. line ++ frame ∷ []) x.ordinary; class = x.class; until = x.until; selection = x.selection }

-- how many wait in the line of an ordinary class
abbrev pub line_length : ℕ → {S : Type 0} → Port S → ℕ
line_length c x = length (slice_index_or x.ordinary c [])

-- what a port's wire carries, with now as the tick to be run: the class and its last tick, until that has been run
abbrev pub carried : ℕ → {S : Type 0} → Port S → Option (ℕ × ℕ)
carried now x = cond (nat_lt now x.until) (Some (x.class, x.until - 1)) None
