-- The laws of a waiting line.
use Rattle.std.proofs.Common.{◌≡◌, ℕ, zero, suc, ◌+◌, ◌-◌, ◌<◌, Bool, true, false, cond, ltb, List, [], ◌∷◌, ◌++◌, length, get_or, Some, sym, refl, ap, ◌∙◌, ⊎_elim, append_assoc, append-nil, arith}
use Rattle.std.proofs.lemmas.List.{length_push}
use Rattle.std.proofs.lemmas.Bool.{cases_eq, cases_lt, lt-ltb, le-ltb, eq-eqb, ne_eqb, cond-true}
use Rattle.egress.specs.declared.line.Line.{Line}
use Rattle.egress.specs.Waiting.{begins, number, waits, front, rest, joined, stored, longer, shorter, empty_line}
use Rattle.egress.specs.Laws.{Move, comes, leaves, held_after, let_in, leaver, gone, LineLaws}
use Rattle.egress.proofs.Rings.{length_waits, none_waits, more_waits, less_waits, begins_below}

module _ {T : Type 0} where
  -- one that joins is let in, and the line is as before with it behind, or neither
  joins : (b : Bool) (x : T) (ws : List T) → ws ++ cond b (x ∷ []) [] ≡ cond b (ws ++ x ∷ []) ws
  joins true x ws = refl
  joins false x ws = append-nil ws

  parts : (ws : List T) → ws ≡ leaver ws ++ rest ws
  parts [] = refl
  parts (x ∷ xs) = refl

  in_order : (room : ℕ) (ms : List (Move T)) (ws : List T) → ws ++ let_in room ms ws ≡ gone room ms ws ++ held_after room ms ws
  in_order room [] ws = append-nil ws
  in_order room (comes x ∷ ms) ws =
      sym (append_assoc ws (cond (ltb (length ws) room) (x ∷ []) []) (let_in room ms (joined room x ws)))
      ∙ ap (λ l. l ++ let_in room ms (joined room x ws)) (joins (ltb (length ws) room) x ws)
      ∙ in_order room ms (joined room x ws)
  in_order room (leaves ∷ ms) ws =
      ap (λ l. l ++ let_in room ms (rest ws)) (parts ws)
      ∙ append_assoc (leaver ws) (rest ws) (let_in room ms (rest ws))
      ∙ ap (λ l. leaver ws ++ l) (in_order room ms (rest ws))
      ∙ sym (append_assoc (leaver ws) (gone room ms (rest ws)) (held_after room ms (rest ws)))

  length_by : (b : Bool) (x : T) (ws : List T) → length (cond b (ws ++ x ∷ []) ws) ≡ cond b (length ws + 1) (length ws)
  length_by true x ws = length_push ws x
  length_by false x ws = refl

  first_by : (b : Bool) (x y : T) (ws : List T) → front (cond b ((y ∷ ws) ++ x ∷ []) (y ∷ ws)) ≡ Some y
  first_by true x y ws = refl
  first_by false x y ws = refl

  length_rest : (ws : List T) → length (rest ws) ≡ length ws - 1
  length_rest [] = refl
  length_rest (x ∷ xs) = omega arith

  -- there is an entry in each slot
  read : (slots : List T) (h : ℕ) → h < length slots → (x : T) × (x ≡ get_or slots h x)
  read [] h p = absurd (omega arith)
  read (x ∷ xs) zero p = (x, refl)
  read (x ∷ xs) (suc h) p = read xs h (omega arith)

  push_is : (slots : List T) (l : Line) (x : T) → waits (stored slots l x) (longer (length slots) l) ≡ joined (length slots) x (waits slots l)
  push_is slots l x = ⊎_elim
      (λ p. let t = lt-ltb (number (length slots) l) (length slots) p in let r : ltb (length (waits slots l)) (length slots) ≡ true = lt-ltb _ _ (omega (arith, length_waits slots l)) in
      rw (t, r) (more_waits slots l x p))
      (λ q. let t = le-ltb (number (length slots) l) (length slots) q in let r : ltb (length (waits slots l)) (length slots) ≡ false = le-ltb _ _ (omega (arith, length_waits slots l)) in
      rw (t, r) refl)
      (cases_lt (number (length slots) l) (length slots))

  take_is : (slots : List T) (l : Line) → waits slots (shorter (length slots) l) ≡ rest (waits slots l)
  take_is slots l = ⊎_elim
      (λ e. let t = eq-eqb (number (length slots) l) 0 e in let none = none_waits slots l e in rw t (none ∙ sym (ap rest none)))
      (λ e. let t = ne_eqb (number (length slots) l) 0 e in let y = read slots (begins (length slots) l) (begins_below (length slots) l (omega arith)) in
      rw t (less_waits slots l y.0 (omega arith) y.1))
      (cases_eq (number (length slots) l) 0)

  pub line_laws : LineLaws T
  line_laws = record {
    new = λ slots. none_waits slots empty_line (omega arith);
    room = λ slots l. omega (arith, length_waits slots l);
    alone = λ room x p. ap front (cond-true (ltb 0 room) (x ∷ []) [] (lt-ltb 0 room p));
    behind = λ room x y ws. first_by (ltb (length (y ∷ ws)) room) x y ws;
    more = λ room x ws. length_by (ltb (length ws) room) x ws;
    less = length_rest;
    order = in_order;
    pushed = push_is;
    taken = take_is;
  }
