-- Flows that join a line.
use Rattle.std.proofs.lemmas.Grind.{common_steps}
use Rattle.std.proofs.Common.{◌≡◌, ℕ, zero, suc, ◌+◌, ◌≤◌, Bool, true, false, cond, eqb, List, [], ◌∷◌, ◌++◌, length, take, sym, refl, ap, ◌∙◌, append_assoc, add-one, arith}
use Rattle.std.proofs.lemmas.Bool.{or_parts, and_left}
use Rattle.schedule.specs.Plan.{Plan}
use Rattle.egress.specs.Waiting as line
use Rattle.network.specs.declared.flight.Flight.{Flight}
use Rattle.network.specs.declared.flight.Flight.TheVariants.{Idle, Waiting, Moving}
use Rattle.network.specs.declared.row.Row.{Row}
use Rattle.network.specs.Flows.{joins}
use Rattle.network.specs.Ports.{listed}
use Rattle.network.specs.Tables.{flight_in}
use Rattle.network.specs.Due.{reaches, some_due}

-- a line takes what there is room for
pub joined_take : {T : Type 0} (room : ℕ) (x : T) (xs : List T) → length xs ≤ room → line.joined room x xs ≡ take room (xs ++ x ∷ [])
joined_take room x xs h = grind (arith, common_steps)

again : {T : Type 0} (n : ℕ) (a b : List T) → take n (take n a ++ b) ≡ take n (a ++ b)
again zero a b = refl
again (suc n) [] b = refl
again (suc n) (x ∷ a) b = ap (λ l. x ∷ l) (again n a b)

module _ (xs : List ℕ) (q : ℕ → Bool) where
  pub join_start : length xs ≤ 16 → xs ≡ take 16 (xs ++ listed 0 q)
  join_start h = grind (arith, common_steps)

  pub join_more : (f : ℕ) (old new : List ℕ) → old ≡ take 16 (xs ++ listed f q) → q f ≡ true → new ≡ take 16 (old ++ (f ∷ [])) → new ≡ take 16 (xs ++ listed (f + 1) q)
  join_more f old new a b c =
      let e : listed f q ++ (f ∷ []) ≡ listed (f + 1) q = sym (ap (λ n. listed n q) (add-one f) ∙ ap (λ b. listed f q ++ cond b (f ∷ []) []) b) in
      c ∙ ap (λ l. take 16 (l ++ (f ∷ []))) a ∙ again 16 (xs ++ listed f q) (f ∷ []) ∙ ap (take 16) (append_assoc xs (listed f q) (f ∷ []) ∙ ap (λ l. xs ++ l) e)

  pub join_same : (f : ℕ) (old new : List ℕ) → old ≡ take 16 (xs ++ listed f q) → q f ≡ false → new ≡ old → new ≡ take 16 (xs ++ listed (f + 1) q)
  join_same f old new a b c = grind (arith, common_steps)

  -- where none joins the line stays
  pub listed_none : ((f : ℕ) → q f ≡ false) → (n : ℕ) → listed n q ≡ []
  listed_none none zero = refl
  listed_none none (suc n) = (λ i. listed_none none n i ++ cond (none n i) (n ∷ []) [])

  pub join_none : length xs ≤ 16 → ((f : ℕ) → q f ≡ false) → (n : ℕ) → xs ≡ take 16 (xs ++ listed n q)
  join_none h none n = join_start h ∙ ap (λ l. take 16 (xs ++ l)) (sym (listed_none none n))

due_part : (t : ℕ) (rows : List Row) (f : ℕ) → some_due t rows ≡ false → reaches t (flight_in rows f) ≡ false
due_part t [] f e = refl
due_part t (r ∷ rs) zero e = (or_parts (reaches t r.flight) (some_due t rs) e).0
due_part t (r ∷ rs) (suc f) e = due_part t rs f (or_parts (reaches t r.flight) (some_due t rs) e).1

not_due : (P : Plan) (t p f : ℕ) (x : Flight) → reaches t x ≡ false → joins P t p f x ≡ false
not_due P t p f Idle e = refl
not_due P t p f (Waiting h u) e = refl
not_due P t p f (Moving h u a) e = and_left (eqb a t) _ e

-- none joins where none is due
pub none_joins : (P : Plan) (t p : ℕ) (rows : List Row) → some_due t rows ≡ false → (f : ℕ) → joins P t p f (flight_in rows f) ≡ false
none_joins P t p rows e f = not_due P t p f (flight_in rows f) (due_part t rows f e)
