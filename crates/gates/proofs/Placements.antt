-- The worked example: where its flows are placed.
use Rattle.std.proofs.Common.{ℕ, ◌+◌, ◌≤◌, List, [], ◌∷◌, refl, inl, inr, arith, lit<}
use Rattle.schedule.specs.Drafts.{with_flow}
use Rattle.schedule.specs.Rules.{FlowKeeps}
use Rattle.schedule.specs.Placing.{FitsBeside, Before, LeastPlacement, NoneFit}
use Rattle.gates.specs.Figures.{two_ports, one_flow}

-- two offsets that are nowhere less do not come before
not_before : (a b x y : ℕ) → x ≤ a → y ≤ b → Before (a ∷ b ∷ []) (x ∷ y ∷ []) → ⊥
not_before a b x y la lb (inl lt) = omega arith
not_before a b x y la lb (inr (e, inl lt)) = omega arith
not_before a b x y la lb (inr (e, inr (f, inl lt))) = omega arith
not_before a b x y la lb (inr (e, inr (f, inr (g, none)))) = none

abbrev route : List ℕ
route = 0 ∷ 1 ∷ []

first_least : (others : List ℕ) → FitsBeside two_ports 0 100 400 route others → Before others (20 ∷ 210 ∷ []) → ⊥
first_least [] fits = absurd (omega (arith, fits.0))
first_least (a ∷ []) fits = absurd (omega (arith, fits.0))
first_least (a ∷ b ∷ c ∷ more) fits = absurd (omega (arith, fits.0))
first_least (a ∷ b ∷ []) fits =
    let low : 20 ≤ a = (fits.1 0 (lit< tt)).guarded in
    let next : a + 120 + 50 + 10 + 10 ≤ b = (fits.1 1 (lit< tt)).reached in
    not_before a b 20 210 low (omega arith)

-- beside the first flow the second waits until the window at port 1 has ended
second_low : (a b : ℕ) → FitsBeside one_flow 170 64 400 route (a ∷ b ∷ []) → (236 ≤ a) × (390 ≤ b)
second_low a b fits =
    let first : 170 + 10 ≤ a = (fits.1 0 (lit< tt)).reached in
    let next : a + 84 + 50 + 10 + 10 ≤ b = (fits.1 1 (lit< tt)).reached in
    let after : 210 + 120 + 20 + 20 ≤ a + 84 + 50 = ((fits.1 1 (lit< tt)).apart 0 (lit< tt) 1 (lit< tt) refl).above (omega arith) in
    (omega arith, omega arith)

second_least : (others : List ℕ) → FitsBeside one_flow 170 64 400 route others → Before others (236 ∷ 390 ∷ []) → ⊥
second_least [] fits = absurd (omega (arith, fits.0))
second_least (a ∷ []) fits = absurd (omega (arith, fits.0))
second_least (a ∷ b ∷ c ∷ more) fits = absurd (omega (arith, fits.0))
second_least (a ∷ b ∷ []) fits = let low = second_low a b fits in not_before a b 236 390 low.0 low.1

pub first_placed : FlowKeeps one_flow 0 → LeastPlacement two_ports 0 100 400 route (20 ∷ 210 ∷ [])
first_placed keeps = record { fits = (refl, keeps); least = first_least }

pub second_placed : FlowKeeps (with_flow one_flow 170 64 400 route (236 ∷ 390 ∷ [])) 1 → LeastPlacement one_flow 170 64 400 route (236 ∷ 390 ∷ [])
second_placed keeps = record { fits = (refl, keeps); least = second_least }

-- a tick sooner it reaches port 0 before the window there has ended
pub sooner_refused : NoneFit one_flow 169 64 400 route
sooner_refused [] fits = absurd (omega (arith, fits.0))
sooner_refused (a ∷ []) fits = absurd (omega (arith, fits.0))
sooner_refused (a ∷ b ∷ c ∷ more) fits = absurd (omega (arith, fits.0))
sooner_refused (a ∷ b ∷ []) fits =
    let first : 169 + 10 ≤ a = (fits.1 0 (lit< tt)).reached in
    let after : 20 + 120 + 20 + 20 ≤ 169 + 10 = ((fits.1 0 (lit< tt)).apart 0 (lit< tt) 0 (lit< tt) refl).above (omega arith) in
    omega arith
