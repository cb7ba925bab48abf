-- Lists altered at one place.
use Rattle.std.proofs.lemmas.Grind.{common_steps}
use Rattle.std.proofs.Common.{◌≡◌, ℕ, zero, suc, ◌<◌, ◌≤◌, Bool, true, false, cond, eqb, List, [], ◌∷◌, map, length, get_or, set, sym, refl, ap, ◌∙◌, map-id, arith}
use Rattle.std.proofs.lemmas.Bool.{ne_eqb, cond-false}
use Rattle.std.proofs.lemmas.List.{get_or-map, length-map, map-set, set-get_or}
use Rattle.network.specs.Ports.{at_place}
use Rattle.network.specs.Tables.{at_or}

module _ {A : Type 0} where
  pub place_set : (p : ℕ) (f : A → A) (xs : List A) (x d : A) → p < length xs → x ≡ f (get_or xs p d) → set xs p x ≡ at_place p f xs
  place_set p f [] x d h e = absurd (omega arith)
  place_set zero f (y ∷ xs) x d h e = ap (λ z. z ∷ xs) e
  place_set (suc p) f (y ∷ xs) x d h e = ap (λ l. y ∷ l) (place_set p f xs x d (omega arith) e)

  pub place_none : (p : ℕ) (f : A → A) (xs : List A) → length xs ≤ p → at_place p f xs ≡ xs
  place_none p f [] h = refl
  place_none zero f (x ∷ xs) h = absurd (omega arith)
  place_none (suc p) f (x ∷ xs) h = ap (λ l. x ∷ l) (place_none p f xs (omega arith))

  pub length_place : (p : ℕ) (f : A → A) (xs : List A) → length (at_place p f xs) ≡ length xs
  length_place p f [] = refl
  length_place zero f (x ∷ xs) = refl
  length_place (suc p) f (x ∷ xs) = ap suc (length_place p f xs)

-- where nothing is found the list has ended
pub past_end : (k n : ℕ) → (k < n → ◌≡◌ {A = Bool} false true) → n ≤ k
past_end k n none = grind (arith, common_steps)

-- the same of a list seen through V
pub place_seen : {X Y : Type 0} (V : X → Y) (p : ℕ) (f : Y → Y) (xs : List X) (x d : X) → p < length xs → V x ≡ f (V (get_or xs p d)) → map V (set xs p x) ≡ at_place p f (map V xs)
place_seen V p f xs x d h e = map-set V xs p x ∙ place_set p f (map V xs) (V x) (V d) (omega (arith, length-map xs V)) (e ∙ ap f (sym (get_or-map V xs p d (V d) h)))

-- what an element put at a place keeps
pub kept_at : {X Y : Type 0} (V : X → Y) (p : ℕ) (xs : List X) (x d : X) → p < length xs → V x ≡ V (get_or xs p d) → map V (set xs p x) ≡ map V xs
kept_at V p xs x d h e = map-set V xs p x ∙ ap (set (map V xs) p) (e ∙ sym (get_or-map V xs p d (V d) h)) ∙ set-get_or (map V xs) p (V d)

eqb_suc : (a b : ℕ) → eqb a b ≡ eqb (suc a) (suc b)
eqb_suc a b = grind (arith, common_steps)

pub place_at : {A : Type 0} (k : ℕ) (g : A → A) (xs : List A) (j : ℕ) (d : A) → j < length xs → get_or (at_place k g xs) j d ≡ cond (eqb j k) (g (get_or xs j d)) (get_or xs j d)
place_at k g [] j d h = absurd (omega arith)
place_at zero g (x ∷ xs) zero d h = refl
place_at zero g (x ∷ xs) (suc j) d h = sym (cond-false (eqb (suc j) 0) (g (get_or xs j d)) (get_or xs j d) (ne_eqb (suc j) 0 (λ e. omega arith)))
place_at (suc k) g (x ∷ xs) zero d h = sym (cond-false (eqb 0 (suc k)) (g x) x (ne_eqb 0 (suc k) (λ e. omega arith)))
place_at (suc k) g (x ∷ xs) (suc j) d h = place_at k g xs j d (omega arith) ∙ ap (λ b. cond b (g (get_or xs j d)) (get_or xs j d)) (eqb_suc j k)

-- what is read at a place of a list seen through V
pub at_or_map : {X A B : Type 0} (V : X → A) (g : A → B) (e : B) (xs : List X) (p : ℕ) → at_or g e (map V xs) p ≡ get_or (map (λ x. g (V x)) xs) p e
at_or_map V g e [] p = refl
at_or_map V g e (x ∷ xs) zero = refl
at_or_map V g e (x ∷ xs) (suc p) = at_or_map V g e xs p

pub at_or_seen : {X A B : Type 0} (V : X → A) (g : A → B) (e : B) (xs : List X) (p : ℕ) (d : X) → p < length xs → at_or g e (map V xs) p ≡ g (V (get_or xs p d))
at_or_seen V g e xs p d h = at_or_map V g e xs p ∙ get_or-map (λ x. g (V x)) xs p d e h

pub or_at : {A B : Type 0} (g : A → B) (e : B) (xs : List A) (p : ℕ) (d : A) → p < length xs → at_or g e xs p ≡ g (get_or xs p d)
or_at g e xs p d h = ap (λ l. at_or g e l p) (sym (map-id xs)) ∙ at_or_seen (λ x. x) g e xs p d h
