-- A choice of either of two: what it means is what the one that it is means.
use Rattle.egress.specs.declared.choice.Choice.{Choice}
use Rattle.egress.specs.declared.choice.Choice.TheVariants.{First, Second}

module _ {A B : Type 0} where
  -- f of the first kind, g of the second
  abbrev pub either : {X : Type 0} → (A → X) → (B → X) → Choice A B → X
  either f g (First a) = f a
  either f g (Second b) = g b

  -- the choice after f has altered the first kind, or g the second
  abbrev pub both : (A → A) → (B → B) → Choice A B → Choice A B
  both f g (First a) = First (f a)
  both f g (Second b) = Second (g b)
