-- Lists of entries with one more behind.
use Rattle.std.proofs.Common.{◌≡◌, ℕ, suc, ◌+◌, ◌-◌, ◌<◌, ◌≤◌, cond, List, [], ◌∷◌, ◌++◌, length, get_or, sym, refl, ap, ◌∙◌, arith}
use Rattle.std.proofs.lemmas.List.{length_push, get_or_append_left, get_or_push}
use Rattle.std.proofs.lemmas.Bool.Decides.{nat_tests}
use Rattle.std.proofs.lemmas.Bool.{lt-ltb, le-ltb}
use Rattle.gates.specs.declared.entry.GateEntry.{GateEntry}
use Rattle.gates.specs.Lists.{no_entry, total, yields, Lasting, Changing}

pub total_push : (es : List GateEntry) (e : GateEntry) → total (es ++ e ∷ []) ≡ total es + e.ticks
total_push [] e = omega arith
total_push (d ∷ es) e = let a = total_push es e in omega arith

pub yields_head : (e : GateEntry) (es : List GateEntry) (x : ℕ) → x < e.ticks → yields (e ∷ es) x ≡ e.octet
yields_head e es x lt = ap (λ b. cond b e.octet (yields es (x - e.ticks))) (lt-ltb x e.ticks lt)

pub yields_tail : (e : GateEntry) (es : List GateEntry) (x : ℕ) → e.ticks ≤ x → yields (e ∷ es) x ≡ yields es (x - e.ticks)
yields_tail e es x le = ap (λ b. cond b e.octet (yields es (x - e.ticks))) (le-ltb x e.ticks le)

-- within the entries before, what they yield
pub yields_before : (es : List GateEntry) (e : GateEntry) (x : ℕ) → x < total es → yields (es ++ e ∷ []) x ≡ yields es x
yields_before [] e x lt = absurd (omega arith)
yields_before (d ∷ es) e x lt = grind (arith, nat_tests, yields_before es e (x - d.ticks))

-- after them, the octet of the last
pub yields_last : (es : List GateEntry) (e : GateEntry) (x : ℕ) → total es ≤ x → x < total es + e.ticks → yields (es ++ e ∷ []) x ≡ e.octet
yields_last [] e x le lt = grind (arith, nat_tests)
yields_last (d ∷ es) e x le lt = grind (arith, nat_tests, yields_last es e (x - d.ticks))

pub lasting_push : (es : List GateEntry) (e : GateEntry) → Lasting es → 0 < e.ticks → Lasting (es ++ e ∷ [])
lasting_push es e held h i lt = grind (arith, held i, length_push, get_or_append_left, get_or_push)

-- the last of the entries has another octet
abbrev pub EndsOther : List GateEntry → ℕ → Type 0
EndsOther es o = (i : ℕ) → i + 1 ≡ length es → (get_or es i no_entry).octet ≡ o → ⊥

pub changing_push : (es : List GateEntry) (e : GateEntry) → Changing es → EndsOther es e.octet → Changing (es ++ e ∷ [])
changing_push es e held other i lt same = grind (arith, held i, other i, length_push, get_or_append_left, get_or_push)

pub ends_push : (es : List GateEntry) (e : GateEntry) (o : ℕ) → (e.octet ≡ o → ⊥) → EndsOther (es ++ e ∷ []) o
ends_push es e o other i n same = grind (arith, length_push, get_or_push)

-- the last tick of a list is in its last entry
pub ends_with : (es : List GateEntry) → Lasting es → yields es (total es - 1) ≡ (get_or es (length es - 1) no_entry).octet
ends_with [] held = refl
ends_with (e ∷ []) held = let pos = held 0 (omega arith) in yields_head e [] (total (e ∷ []) - 1) (omega arith)
ends_with (e ∷ d ∷ es) held =
    let pos = held 1 (omega arith) in
    let n : length (e ∷ d ∷ es) - 1 ≡ suc (length (d ∷ es) - 1) = omega arith in
    let x : total (e ∷ d ∷ es) - 1 - e.ticks ≡ total (d ∷ es) - 1 = omega arith in
    yields_tail e (d ∷ es) (total (e ∷ d ∷ es) - 1) (omega arith) ∙ ap (yields (d ∷ es)) x ∙ ends_with (d ∷ es) (λ i lt. held (suc i) (omega arith))
    ∙ ap (λ m. (get_or (e ∷ d ∷ es) m no_entry).octet) (sym n)
