-- The gate lists of a port yield what the plans say.
use Rattle.std.proofs.Common.{◌≡◌, ℕ, ◌-◌, ◌%◌, ◌<◌, cond, leb, List, Some, None, vec_items, Option, sym, ap, ◌∙◌, mod-lt, arith}
use Rattle.schedule.specs.Plan.{Plan}
use Rattle.gates.specs.declared.entry.GateEntry.{GateEntry}
use Rattle.gates.specs.declared.timetable.Rotation.{Rotation}
use Rattle.gates.specs.declared.timetable.Timetable.{Timetable}
use Rattle.gates.specs.Lists.{yields, IsGateList}
use Rattle.gates.specs.Timetable.{cyclic_octet, joint_octet}
use Rattle.gates.specs.Lookup.{list_octet, held_from, lists_octet, octets_with, octets, ListsFollowPlans}
use Rattle.gates.proofs.Entries.{ends_with}

follows_one : (P : Plan) (p : ℕ) (es : List GateEntry) (B l : ℕ) → 0 < P.cycle → IsGateList P p es → list_octet es P.cycle B l ≡ cyclic_octet P B p l
unfolding list_octet cyclic_octet
follows_one P p es B l some is = ap (λ o. cond (leb B l) o 0x00) (is.yielding ((l - B) % P.cycle) (mod-lt (l - B) some))

follows_two : (P Q : Plan) (p : ℕ) (es fs : List GateEntry) (B T l : ℕ) → 0 < P.cycle → 0 < Q.cycle → IsGateList P p es → IsGateList Q p fs
    → lists_octet es P.cycle B fs Q.cycle T l ≡ joint_octet P B Q T p l
unfolding lists_octet joint_octet
follows_two P Q p es fs B T l sp sq ep fq =
    let w = ep.whole in
    let held = sym (ends_with es ep.lasting) ∙ ap (λ n. yields es (n - 1)) w ∙ ep.yielding (P.cycle - 1) (omega arith) in
    let first = follows_one P p es B l sp ep in
    let next = follows_one Q p fs T l sq fq in
    λ i. cond (leb T l) (next i) (cond (leb (held_from P.cycle B T) l) (held i) (first i))

steady : (t : Timetable) (P : Plan) (p l : ℕ) → t.current.list.cycle ≡ P.cycle → IsGateList P p (vec_items t.current.list.entries) → t.next ≡ None → octets t l ≡ cyclic_octet P t.current.base p l
unfolding octets
steady t P p l same is none =
    ap (λ (o : Option Rotation). octets_with t.current o l) none ∙ ap (λ C. list_octet (vec_items t.current.list.entries) C t.current.base l) same
    ∙ follows_one P p (vec_items t.current.list.entries) t.current.base l (omega (arith, t.current.list.positive)) is

changing : (t : Timetable) (n : Rotation) (P Q : Plan) (p l : ℕ) → t.current.list.cycle ≡ P.cycle → IsGateList P p (vec_items t.current.list.entries)
    → t.next ≡ Some n → n.list.cycle ≡ Q.cycle → IsGateList Q p (vec_items n.list.entries) → octets t l ≡ joint_octet P t.current.base Q n.base p l
unfolding octets
changing t n P Q p l same is some alike js =
    ap (λ (o : Option Rotation). octets_with t.current o l) some
    ∙ (λ i. lists_octet (vec_items t.current.list.entries) (same i) t.current.base (vec_items n.list.entries) (alike i) n.base l)
    ∙ follows_two P Q p (vec_items t.current.list.entries) (vec_items n.list.entries) t.current.base n.base l (omega (arith, t.current.list.positive)) (omega (arith, n.list.positive)) is js

pub lists_follow_plans : ListsFollowPlans
lists_follow_plans = record { one = follows_one; two = follows_two; steady = steady; changing = changing }
