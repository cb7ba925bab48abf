-- The windows of a route, place by place.
use Rattle.std.proofs.Common.{◌≡◌, ℕ, zero, suc, ◌<◌, List, [], ◌∷◌, map, length, get_or, refl, ap, arith}
use Rattle.schedule.specs.declared.tables.Window.{Window}
use Rattle.schedule.specs.Plan.{no_window}
use Rattle.schedule.specs.Drafts.{windows_along}

pub along_length : (ps os : List ℕ) → length os ≡ length ps → length (windows_along ps os) ≡ length ps
along_length [] os e = refl
along_length (p ∷ ps) [] e = absurd (omega arith)
along_length (p ∷ ps) (o ∷ os) e = ap suc (along_length ps os (omega arith))

pub along_at : (ps os : List ℕ) → length os ≡ length ps → (i : ℕ) → i < length ps → get_or (windows_along ps os) i no_window ≡ record { port = get_or ps i 0; offset = get_or os i 0 }
along_at [] os e i h = absurd (omega arith)
along_at (p ∷ ps) [] e i h = absurd (omega arith)
along_at (p ∷ ps) (o ∷ os) e zero h = refl
along_at (p ∷ ps) (o ∷ os) e (suc i) h = along_at ps os (omega arith) i (omega arith)

pub along_ports : (ps os : List ℕ) → length os ≡ length ps → map (λ (w : Window). w.port) (windows_along ps os) ≡ ps
along_ports [] os e = refl
along_ports (p ∷ ps) [] e = absurd (omega arith)
along_ports (p ∷ ps) (o ∷ os) e = ap (λ l. p ∷ l) (along_ports ps os (omega arith))
