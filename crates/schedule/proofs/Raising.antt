-- What every solution says of a window that breaks a rule: how far its offset has to rise.
use Rattle.std.proofs.Common.{◌≡◌, ℕ, zero, suc, ◌+◌, ◌-◌, ◌*◌, ◌<◌, ◌≤◌, List, [], ◌∷◌, map, get_or, sym, refl, ap, ◌∙◌, inl, inr, arith}
use Rattle.std.proofs.lemmas.List.{get_or-take}
use Rattle.std.proofs.lemmas.Bool.{cases_lt}
use Rattle.schedule.specs.declared.tables.Window.{Window}
use Rattle.schedule.specs.Plan.{Plan, no_window, flow_at, window_at, hop_count, port_at, offset_at, delay_of, end_at, crossed_at, late_at, early_at}
use Rattle.schedule.specs.Rules.{Guarded, EndsInCycle, ReachedInTime, DeliveredInCycle, MeetsDeadline, Apart}
use Rattle.schedule.specs.Raising.{retimed, Later, Behind, Solves, MustRise, Hopeless, TooClose}

pub getD_map_all : {X Y : Type 0} (f : X → Y) (xs : List X) (i : ℕ) (d : X) → get_or (map f xs) i (f d) ≡ f (get_or xs i d)
getD_map_all f [] i d = refl
getD_map_all f (x ∷ xs) zero d = refl
getD_map_all f (x ∷ xs) (suc i) d = getD_map_all f xs i d

more_than : (a b : ℕ) → (a ≤ b → ⊥) → b < a
more_than a b no_more = elim (cases_lt b a) [ inl l ↦ l | inr l ↦ absurd (no_more l) ]

-- other windows of flow f, none earlier
module _ (P : Plan) (f : ℕ) (others : List Window) (moved : Later (flow_at P f).first (hop_count P f) P.windows others) where
  pub port_same : (h : ℕ) → port_at (retimed P others) f h ≡ port_at P f h
  port_same h =
      let port : Window → ℕ = λ w. w.port in
      let i = (flow_at P f).first + h in
      sym (getD_map_all port others i no_window) ∙ ap (λ (l : List ℕ). get_or l i 0) moved.ports ∙ getD_map_all port P.windows i no_window

  crossed_later : (h : ℕ) → h < hop_count P f → crossed_at P f h ≤ crossed_at (retimed P others) f h
  crossed_later h lt =
      let d : delay_of P (port_at (retimed P others) f h) ≡ delay_of P (port_at P f h) = ap (delay_of P) (port_same h) in
      let o = moved.later h lt in
      omega arith

  pub late_later : (h : ℕ) → h ≤ hop_count P f → late_at P f h ≤ late_at (retimed P others) f h
  late_later zero le = omega arith
  late_later (suc h) le = let o = crossed_later h (omega arith) in omega arith

  old_window : (g k : ℕ) → (flow_at P g).first + hop_count P g ≤ (flow_at P f).first → k < hop_count P g → window_at (retimed P others) g k ≡ window_at P g k
  old_window g k le lt =
      let n = (flow_at P f).first in
      let i = (flow_at P g).first + k in
      sym (get_or-take n others i no_window (omega arith)) ∙ ap (λ (l : List Window). get_or l i no_window) moved.alike ∙ get_or-take n P.windows i no_window (omega arith)

  pub old_offset : (g k : ℕ) → (flow_at P g).first + hop_count P g ≤ (flow_at P f).first → k < hop_count P g → offset_at (retimed P others) g k ≡ offset_at P g k
  old_offset g k le lt = ap (λ (w : Window). w.offset) (old_window g k le lt)

  pub old_port : (g k : ℕ) → (flow_at P g).first + hop_count P g ≤ (flow_at P f).first → k < hop_count P g → port_at (retimed P others) g k ≡ port_at P g k
  old_port g k le lt = ap (λ (w : Window). w.port) (old_window g k le lt)

  pub old_early : (g k : ℕ) → (flow_at P g).first + hop_count P g ≤ (flow_at P f).first → k < hop_count P g → early_at (retimed P others) g k ≡ early_at P g k
  old_early g zero le lt = refl
  old_early g (suc k) le lt =
      let d : delay_of P (port_at (retimed P others) g k) ≡ delay_of P (port_at P g k) = ap (delay_of P) (old_port g k le (omega arith)) in
      let o = old_offset g k le (omega arith) in
      omega arith

  -- early reaches one hop on
  pub early_next : (h : ℕ) → early_at (retimed P others) f (suc h) + offset_at P f h ≡ early_at P f (suc h) + offset_at (retimed P others) f h
  early_next h =
      let d : delay_of P (port_at (retimed P others) f h) ≡ delay_of P (port_at P f h) = ap (delay_of P) (port_same h) in
      omega arith

module _ (P : Plan) (f h : ℕ) (has : h < hop_count P f) where
  pub rise_guard : (Guarded P f h → ⊥) → MustRise P f h (2 * P.error)
  rise_guard broken = record { hop_in = has; rises = more_than _ _ broken; least = λ others s. (s.1 h has).guarded }

  pub rise_reach : (ReachedInTime P f h → ⊥) → MustRise P f h (late_at P f h + P.error)
  rise_reach broken = record {
    hop_in = has;
    rises = more_than _ _ broken;
    least = λ others s. let l = late_later P f others s.0 h (omega arith) in let r = (s.1 h has).reached in omega arith;
  }

  pub hopeless_end : (EndsInCycle P f h → ⊥) → Hopeless P f
  hopeless_end broken others s = let l = s.0.later h has in let r = (s.1 h has).ends in broken (omega arith)

  pub hopeless_delivery : (DeliveredInCycle P f h → ⊥) → Hopeless P f
  hopeless_delivery broken others s = broken (λ e. let l = late_later P f others s.0 (suc h) (omega arith) in let r = (s.1 h has).delivered e in omega arith)

  pub hopeless_deadline : (MeetsDeadline P f h → ⊥) → Hopeless P f
  hopeless_deadline broken others s = broken (λ e. let l = late_later P f others s.0 (suc h) (omega arith) in let r = (s.1 h has).meets e in omega arith)

-- a window that is too close
module _ (P : Plan) (f h g k : ℕ) (has : h < hop_count P f) (behind : Behind P f) (near : TooClose P f h g k) where
  apart_there : (others : List Window) → Solves P f others → Apart (retimed P others) f h g k
  apart_there others s =
      let le = behind g near.lower in
      (s.1 h has).apart g near.lower k near.hop_in (old_port P f others s.0 g k le near.hop_in ∙ near.one_port ∙ sym (port_same P f others s.0 h))

  -- where ours is not later, it comes behind
  pub rise_behind : offset_at P f h ≤ offset_at P g k → MustRise P f h (offset_at P g k + 1)
  rise_behind le = record { hop_in = has; rises = omega arith; least = λ others s. elim (cases_lt (offset_at P g k) (offset_at (retimed P others) f h)) [ inl l ↦ omega arith | inr l ↦ absurd (no_room others s l) ] }
    where
      no_room : (others : List Window) → Solves P f others → offset_at (retimed P others) f h ≤ offset_at P g k → ⊥
      no_room others s l =
          let apart = apart_there others s in
          let o = old_offset P f others s.0 g k (behind g near.lower) near.hop_in in
          let e = old_early P f others s.0 g k (behind g near.lower) near.hop_in in
          let up = s.0.later h has in
          let ne = apart.differ in
          let lt : offset_at (retimed P others) f h < offset_at (retimed P others) g k = elim (cases_lt (offset_at (retimed P others) f h) (offset_at (retimed P others) g k)) [ inl l ↦ l | inr m ↦ absurd (ne (omega arith)) ] in
          let after = apart.below lt in
          near.close (record { differ = λ q. omega arith; above = λ m. absurd (omega arith); below = λ m. omega arith })

  -- where ours is later, its frame comes too early
  too_early : offset_at P g k < offset_at P f h → early_at P f h < end_at P g k + 2 * P.error
  too_early lt = more_than _ _ (λ after. near.close (record { differ = λ q. omega arith; above = λ m. after; below = λ m. absurd (omega arith) }))

  comes_after : offset_at P g k < offset_at P f h → (others : List Window) → Solves P f others → end_at P g k + 2 * P.error ≤ early_at (retimed P others) f h
  comes_after lt others s =
      let o = old_offset P f others s.0 g k (behind g near.lower) near.hop_in in
      let up = s.0.later h has in
      let after = (apart_there others s).above (omega arith) in
      omega arith

  pub hopeless_first : offset_at P g k < offset_at P f h → h ≡ 0 → Hopeless P f
  hopeless_first lt e others s =
      let before = too_early lt in
      let after = comes_after lt others s in
      let a = ap (early_at P f) e in
      let b = ap (early_at (retimed P others) f) e in
      omega arith

  pub rise_before : offset_at P g k < offset_at P f h → (p : ℕ) → h ≡ suc p → MustRise P f p (offset_at P f p + (end_at P g k + 2 * P.error - early_at P f h))
  rise_before lt p e =
      let before = too_early lt in
      record {
        hop_in = omega arith;
        rises = omega arith;
        least = λ others s.
            let after = comes_after lt others s in
            let a = ap (early_at P f) e in
            let b = ap (early_at (retimed P others) f) e in
            let c = early_next P f others s.0 p in
            omega arith;
      }
