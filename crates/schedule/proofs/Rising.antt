-- Raising one offset after another: every solution stays ahead, and less and less room is left.
use Rattle.std.proofs.Common.{◌≡◌, ℕ, ◌+◌, ◌<◌, true, false, List, length, get_or, sym, refl, ap, ◌∙◌, subst, arith}
use Rattle.std.proofs.lemmas.Bool.{both_ways}
use Rattle.schedule.specs.declared.tables.Window.{Window}
use Rattle.schedule.specs.Plan.{Plan, no_window, flow_at, hop_count}
use Rattle.schedule.specs.Rules.{FlowKeeps}
use Rattle.schedule.specs.Raising.{retimed, Later, Solves, MustRise, Hopeless, Raises, set_offset, rise_left}
use Rattle.schedule.proofs.Moving.{rise_falls, later_trans, later_raised, raised_later}

pub rise_less : (P after : Plan) (i to : ℕ) → after ≡ retimed P (set_offset P.windows i to) → i < length P.windows → (get_or P.windows i no_window).offset < to → to < P.cycle
    → rise_left after.cycle after.windows < rise_left P.cycle P.windows
rise_less P after i to is lt up low = subst (λ (p : Plan). rise_left p.cycle p.windows < rise_left P.cycle P.windows) (sym is) (rise_falls P.cycle P.windows i to lt up low)

module _ (E : Plan) (f : ℕ) where
  abbrev Ahead : List Window → List Window → Type 0
  Ahead = Later (flow_at E f).first (hop_count E f)

  -- only windows have moved, none is earlier, and every solution is still to come
  abbrev Rising : Plan → Type 0
  Rising P = (P ≡ retimed E P.windows) × Ahead E.windows P.windows × ((others : List Window) → Solves E f others → Ahead P.windows others)

  pub raise_none : (P : Plan) → Rising P → Hopeless P f → Raises E f false P
  raise_none P (is, up, ahead) none = record {
    only_windows = is;
    no_earlier = up;
    solves = λ e. absurd (both_ways false refl e);
    least = λ others s. absurd (subst (λ (p : Plan). Hopeless p f) is none others (ahead others s, s.1));
  }

  pub raise_done : (P : Plan) → Rising P → FlowKeeps P f → Raises E f true P
  raise_done P (is, up, ahead) keeps = record { only_windows = is; no_earlier = up; solves = λ e. keeps; least = λ others s. (refl, ahead others s) }

  step : (ws : List Window) → Rising (retimed E ws) → (h to : ℕ) → MustRise (retimed E ws) f h to → (flow_at E f).first + h < length ws → Rising (retimed E (set_offset ws ((flow_at E f).first + h) to))
  step ws (is, up, ahead) h to rise lt =
      let first = (flow_at E f).first in
      let hops = hop_count E f in
      let higher = rise.rises in (
        refl,
        later_trans first hops E.windows ws (set_offset ws (first + h) to) up (later_raised first hops ws h to lt (omega arith)),
        λ others s. raised_later first hops ws h to lt others (ahead others s) (rise.least others (ahead others s, s.1)),
      )

  pub raise_more : (P : Plan) → Rising P → (h to : ℕ) → MustRise P f h to → (flow_at P f).first + h < length P.windows
      → (after : Plan) → after ≡ retimed P (set_offset P.windows ((flow_at P f).first + h) to) → Rising after
  raise_more P rising h to rise lt after is =
      let ws = P.windows in
      let e = rising.0 in
      let first = ap (λ (p : Plan). (flow_at p f).first) e in
      let there : after ≡ retimed E (set_offset ws ((flow_at E f).first + h) to) = is ∙ ap (λ (p : Plan). retimed p (set_offset ws ((flow_at p f).first + h) to)) e in
      subst Rising (sym there) (step ws (subst Rising e rising) h to (subst (λ (p : Plan). MustRise p f h to) e rise) (omega arith))
