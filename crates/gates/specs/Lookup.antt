-- The timetable of a port by its gate lists: what holds at a local tick, for how long, and for how long a gate stays open.
use Rattle.std.specs.Prelude.{◌≡◌, ℕ, zero, suc, ◌+◌, ◌-◌, ◌%◌, ◌<◌, ◌≤◌, min, Bool, cond, List, [], ◌∷◌, length, Some, None, vec_items, Option, nat_eq, nat_le, nat_lt, slice_index_or}
use Rattle.schedule.specs.Plan.{Plan}
use Rattle.gates.specs.declared.entry.GateEntry.{GateEntry}
use Rattle.gates.specs.declared.list.GateList.{GateList}
use Rattle.gates.specs.declared.span.Span.{Span}
use Rattle.gates.specs.declared.timetable.Rotation.{Rotation}
use Rattle.gates.specs.declared.timetable.Timetable.{Timetable}
use Rattle.gates.specs.Octets.{opens}
use Rattle.gates.specs.Lists.{no_entry, yields, IsGateList}
use Rattle.gates.specs.Timetable.{cyclic_octet, joint_octet, each, open_for}

-- the octet of the last entry
abbrev pub last_octet : List GateEntry → ℕ
last_octet es = (slice_index_or es (length es - 1) no_entry).octet

-- a list of cycle C with base B at tick l: every gate is closed before the base, and from then on the list goes round
unfoldable pub list_octet : List GateEntry → ℕ → ℕ → ℕ → ℕ
list_octet es C B l = cond (nat_le B l) (yields es ((l - B) % C)) 0x00

-- the tick from which the last octet of that list is held until tick T: the begin of the cycle in which T falls
abbrev pub held_from : ℕ → ℕ → ℕ → ℕ
held_from C B T = T - (T - B) % C

-- that list, then from tick T on a list of cycle D; in between the last octet of the first is held
unfoldable pub lists_octet : List GateEntry → ℕ → ℕ → List GateEntry → ℕ → ℕ → ℕ → ℕ
lists_octet es C B fs D T l = cond (nat_le T l) (list_octet fs D T l) (cond (nat_le (held_from C B T) l) (last_octet es) (list_octet es C B l))

-- the octet at tick l of a gate list that goes round from its base on
abbrev pub rotation_octet : Rotation → ℕ → ℕ
rotation_octet a = list_octet (vec_items a.list.entries) a.list.cycle a.base

-- likewise with the next one, if there is one
abbrev pub octets_with : Rotation → Option Rotation → ℕ → ℕ
octets_with a None = rotation_octet a
octets_with a (Some n) = lists_octet (vec_items a.list.entries) a.list.cycle a.base (vec_items n.list.entries) n.list.cycle n.base

-- the octet of a timetable at tick l
unfoldable pub octets : Timetable → ℕ → ℕ
octets t = octets_with t.current t.next

-- the octet of entries that go round for ever, at tick x from the begin of the first
abbrev pub round_octet : List GateEntry → ℕ → ℕ → ℕ
round_octet es C x = yields es (x % C)

-- the entry in which tick x falls, counted from the begin of the first: its octet, and the ticks that it lasts yet
abbrev pub entry_span : List GateEntry → ℕ → Span
entry_span [] x = record { octet = 0; ticks = 0 }
entry_span (e ∷ es) x = cond (nat_lt x e.ticks) (record { octet = e.octet; ticks = e.ticks - x }) (entry_span es (x - e.ticks))

-- likewise at tick l of a list with its base; before the base nothing is open until it comes
unfoldable pub list_span : List GateEntry → ℕ → ℕ → ℕ → Span
list_span es C B l = cond (nat_le B l) (entry_span es ((l - B) % C)) (record { octet = 0x00; ticks = B - l })

-- a span that ends after n ticks at the latest
abbrev pub cut_to : ℕ → Span → Span
cut_to n s = record { octet = s.octet; ticks = min s.ticks n }

-- likewise with a next list: the hold and the next list also end a span
unfoldable pub lists_span : List GateEntry → ℕ → ℕ → List GateEntry → ℕ → ℕ → ℕ → Span
lists_span es C B fs D T l =
    cond (nat_le T l) (list_span fs D T l) (cond (nat_le (held_from C B T) l) (record { octet = last_octet es; ticks = T - l }) (cut_to (held_from C B T - l) (list_span es C B l)))

-- the span at tick l of a gate list that goes round from its base on
abbrev pub rotation_span : Rotation → ℕ → Span
rotation_span a = list_span (vec_items a.list.entries) a.list.cycle a.base

-- likewise with the next one, if there is one
abbrev pub span_with : Rotation → Option Rotation → ℕ → Span
span_with a None = rotation_span a
span_with a (Some n) = lists_span (vec_items a.list.entries) a.list.cycle a.base (vec_items n.list.entries) n.list.cycle n.base

-- the span of a timetable at tick l
unfoldable pub span_at : Timetable → ℕ → Span
span_at t = span_with t.current t.next

-- the octet stays as it is at tick l, for the ticks of the span
pub record Stays (os : ℕ → ℕ) (l : ℕ) (s : Span) : Type 0 where
  pub lasts : 0 < s.ticks
  pub here : os l ≡ s.octet
  pub on : (i : ℕ) → i < s.ticks → os (l + i) ≡ s.octet

-- the open ticks of class c from tick x of the entries to the first that shuts it, or to their end
abbrev pub entry_open : List GateEntry → ℕ → ℕ → ℕ
entry_open [] x c = 0
entry_open (e ∷ es) x c = cond (nat_lt x e.ticks) (cond (opens e.octet c) (e.ticks - x + entry_open es 0 c) 0) (entry_open es (x - e.ticks) c)

-- the most, up to n, such that q holds of each number below it
abbrev pub lead : ℕ → (ℕ → Bool) → ℕ
lead zero q = 0
lead (suc n) q = cond (each (suc n) q) (suc n) (lead n q)

-- for how many ticks from l on, n at most, the gate of class c stays open
abbrev pub open_ticks : (ℕ → ℕ) → ℕ → ℕ → ℕ → ℕ
open_ticks os l c n = lead n (λ i. opens (os (l + i)) c)

-- r is that count, and it is all that were asked exactly where the gate is open at each of the ticks
pub record Counts (os : ℕ → ℕ) (l c n r : ℕ) : Type 0 where
  pub count : r ≡ open_ticks os l c n
  pub all : nat_eq r n ≡ open_for os l c n

-- a timetable with another list from tick T on
abbrev pub followed_by : Timetable → GateList → ℕ → Timetable
followed_by t a T = record { current = t.current; next = Some (record { list = a; base = T }) }

-- a timetable in which that next list, if there is one, has taken the place of the first
abbrev pub settled_with : Timetable → Option Rotation → Timetable
settled_with t None = t
settled_with t (Some n) = record { current = n; next = None }

-- a timetable whose own next list has
abbrev pub settled : Timetable → Timetable
settled t = settled_with t t.next

-- the list whose place the next one takes
abbrev pub released_with : GateList → Option Rotation → Option GateList
released_with a None = None
released_with a (Some n) = Some a

-- likewise of a timetable
abbrev pub released : Timetable → Option GateList
released t = released_with t.current.list t.next

-- gate lists of a port yield what the plans say, for one plan and while the plan changes
pub record ListsFollowPlans : Type 0 where
  pub one : (P : Plan) (p : ℕ) (es : List GateEntry) (B l : ℕ) → 0 < P.cycle → IsGateList P p es → list_octet es P.cycle B l ≡ cyclic_octet P B p l
  pub two : (P Q : Plan) (p : ℕ) (es fs : List GateEntry) (B T l : ℕ) → 0 < P.cycle → 0 < Q.cycle → IsGateList P p es → IsGateList Q p fs
      → lists_octet es P.cycle B fs Q.cycle T l ≡ joint_octet P B Q T p l
  pub steady : (t : Timetable) (P : Plan) (p l : ℕ) → t.current.list.cycle ≡ P.cycle → IsGateList P p (vec_items t.current.list.entries) → t.next ≡ None → octets t l ≡ cyclic_octet P t.current.base p l
  pub changing : (t : Timetable) (n : Rotation) (P Q : Plan) (p l : ℕ) → t.current.list.cycle ≡ P.cycle → IsGateList P p (vec_items t.current.list.entries)
      → t.next ≡ Some n → n.list.cycle ≡ Q.cycle → IsGateList Q p (vec_items n.list.entries) → octets t l ≡ joint_octet P t.current.base Q n.base p l

-- the tick from which the next list is followed, 0 if there is none
abbrev pub next_from : Option Rotation → ℕ
next_from None = 0
next_from (Some n) = n.base

-- once the next list has begun, taking it in the place of the first alters no octet
abbrev pub SettlingKeeps : Type 0
SettlingKeeps = (t : Timetable) (l : ℕ) → next_from t.next ≤ l → octets (settled t) l ≡ octets t l
