-- A port has one gate list.
use Rattle.std.proofs.Common.{◌≡◌, ℕ, suc, ◌+◌, ◌-◌, ◌<◌, List, [], ◌∷◌, sym, refl, ap, ◌∙◌, inl, inr, arith}
use Rattle.std.proofs.lemmas.Bool.{cases_order}
use Rattle.gates.specs.declared.entry.GateEntry.{GateEntry}
use Rattle.gates.specs.Lists.{total, yields, Lasting, Changing, OneGateList}
use Rattle.gates.proofs.Entries.{yields_head, yields_tail}

-- two lists that yield the same
abbrev Alike : List GateEntry → List GateEntry → Type 0
Alike es fs = (x : ℕ) → x < total es → yields es x ≡ yields fs x

lasting_tail : (e : GateEntry) (es : List GateEntry) → Lasting (e ∷ es) → Lasting es
lasting_tail e es held i lt = held (suc i) (omega arith)

changing_tail : (e : GateEntry) (es : List GateEntry) → Changing (e ∷ es) → Changing es
changing_tail e es held i lt same = grind (arith, held (suc i))

-- with one octet in front, neither list can leave it first
not_shorter : (e : GateEntry) (es : List GateEntry) (f : GateEntry) (fs : List GateEntry) → Lasting (e ∷ es) → Changing (e ∷ es) → total (e ∷ es) ≡ total (f ∷ fs)
    → Alike (e ∷ es) (f ∷ fs) → e.octet ≡ f.octet → e.ticks < f.ticks → ⊥
not_shorter e [] f fs lasts changes t alike o lt = omega arith
not_shorter e (d ∷ ds) f fs lasts changes t alike o lt = grind (arith, lasts 1, changes 0, alike e.ticks, yields_tail, yields_head)

same_list : (es fs : List GateEntry) → Lasting es → Lasting fs → Changing es → Changing fs → total es ≡ total fs → Alike es fs → es ≡ fs
same_list [] [] le lf ce cf t alike = refl
same_list [] (f ∷ fs) le lf ce cf t alike = let h = lf 0 (omega arith) in absurd (omega arith)
same_list (e ∷ es) [] le lf ce cf t alike = let h = le 0 (omega arith) in absurd (omega arith)
same_list (e ∷ es) (f ∷ fs) le lf ce cf t alike =
    let he = le 0 (omega arith) in
    let hf = lf 0 (omega arith) in
    let o : e.octet ≡ f.octet = sym (yields_head e es 0 he) ∙ alike 0 (omega arith) ∙ yields_head f fs 0 hf in
    let back : Alike (f ∷ fs) (e ∷ es) = λ x h. sym (alike x (omega arith)) in
    let n : e.ticks ≡ f.ticks = elim (cases_order e.ticks f.ticks) [
      | inl s ↦ s
      | inr s ↦ elim s [ inl lt ↦ absurd (not_shorter e es f fs le ce t alike o lt) | inr lt ↦ absurd (not_shorter f fs e es lf cf (sym t) back (sym o) lt) ]
    ] in
    let rest : Alike es fs = λ x h.
    let a : x + e.ticks - e.ticks ≡ x = omega arith in
    let b : x + e.ticks - f.ticks ≡ x = omega arith in
    sym (yields_tail e es (x + e.ticks) (omega arith) ∙ ap (yields es) a) ∙ alike (x + e.ticks) (omega arith) ∙ yields_tail f fs (x + e.ticks) (omega arith) ∙ ap (yields fs) b in
    let tail = same_list es fs (lasting_tail e es le) (lasting_tail f fs lf) (changing_tail e es ce) (changing_tail f fs cf) (omega arith) rest in
    λ i. record { octet = o i; ticks = n i } ∷ tail i

pub one_gate_list : OneGateList
one_gate_list P p es fs a b =
    let t = a.whole in
    same_list es fs a.lasting b.lasting a.changing b.changing (t ∙ sym b.whole) (λ x h. a.yielding x (omega arith) ∙ sym (b.yielding x (omega arith)))
