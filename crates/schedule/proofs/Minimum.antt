-- Of two ways to place a flow, the lesser offset at each hop is a way too.
use Rattle.std.proofs.Common.{◌≡◌, ℕ, zero, suc, ◌+◌, ◌*◌, ◌<◌, ◌≤◌, ◌⊎◌, List, [], ◌∷◌, ◌++◌, length, get_or, sym, refl, ap, ◌∙◌, subst, inl, inr, arith}
use Rattle.std.proofs.lemmas.Bool.{cases_lt}
use Rattle.schedule.specs.declared.tables.Flow.{Flow}
use Rattle.schedule.specs.declared.tables.Window.{Window}
use Rattle.schedule.specs.Plan.{Plan, flow_count, flow_at, hop_count, port_at, offset_at, end_at, early_at}
use Rattle.schedule.specs.Rules.{Apart, KeepsRules, FlowKeeps}
use Rattle.schedule.specs.Held.{StretchesHeld}
use Rattle.schedule.specs.Drafts.{with_flow, windows_along}
use Rattle.schedule.specs.Placing.{FitsBeside, minima}
use Rattle.schedule.specs.Raising.{retimed, Later, Behind}
use Rattle.schedule.proofs.Raising.{port_same, late_later, old_offset, old_port, old_early, early_next}
use Rattle.schedule.proofs.Placed.{new_flow, new_hops, all_behind, later_from, placed_offset}

-- a plan whose flow f has at each hop the offset of one of two others, and none above either
module _ (P : Plan) (f : ℕ) (behind : Behind P f) where
  abbrev Ahead : List Window → Type 0
  Ahead = Later (flow_at P f).first (hop_count P f) P.windows

  abbrev SameEarly : ℕ → List Window → Type 0
  SameEarly h ws = early_at P f h ≡ early_at (retimed P ws) f h

  module _ (xs ys : List Window) (ahead_x : Ahead xs) (ahead_y : Ahead ys) (keeps_x : FlowKeeps (retimed P xs) f) (keeps_y : FlowKeeps (retimed P ys) f)
      (h : ℕ) (has : h < hop_count P f) (here : offset_at P f h ≡ offset_at (retimed P xs) f h) (early : SameEarly h xs ⊎ SameEarly h ys) where
    apart_in : (ws : List Window) → Ahead ws → FlowKeeps (retimed P ws) f → (g k : ℕ) → g < f → k < hop_count P g → port_at P g k ≡ port_at P f h → Apart (retimed P ws) f h g k
    apart_in ws ahead keeps g k lower lt one = (keeps h has).apart g lower k lt (old_port P f ws ahead g k (behind g lower) lt ∙ one ∙ sym (port_same P f ws ahead h))

    later_in : (ws : List Window) → Ahead ws → FlowKeeps (retimed P ws) f → (g k : ℕ) → g < f → k < hop_count P g → port_at P g k ≡ port_at P f h → offset_at P g k < offset_at P f h
        → end_at P g k + 2 * P.error ≤ early_at (retimed P ws) f h
    later_in ws ahead keeps g k lower lt one above =
        let o = old_offset P f ws ahead g k (behind g lower) lt in
        let up = ahead.later h has in
        let after = (apart_in ws ahead keeps g k lower lt one).above (omega arith) in
        omega arith

    pub keeps_here : KeepsRules P f h
    keeps_here = record {
      guarded = let r = (keeps_x h has).guarded in omega arith;
      ends = let r = (keeps_x h has).ends in omega arith;
      reached = let r = (keeps_x h has).reached in let l = late_later P f xs ahead_x h (omega arith) in omega arith;
      delivered = λ e. let r = (keeps_x h has).delivered e in let l = late_later P f xs ahead_x (suc h) (omega arith) in omega arith;
      meets = λ e. let r = (keeps_x h has).meets e in let l = late_later P f xs ahead_x (suc h) (omega arith) in omega arith;
      apart = λ g lower k lt one.
          let apart = apart_in xs ahead_x keeps_x g k lower lt one in
          let o = old_offset P f xs ahead_x g k (behind g lower) lt in
          let r = old_early P f xs ahead_x g k (behind g lower) lt in
          record {
            differ = λ e. apart.differ (sym here ∙ e ∙ sym o);
            above = λ l. let a = later_in xs ahead_x keeps_x g k lower lt one l in let b = later_in ys ahead_y keeps_y g k lower lt one l in
                elim early [ inl e ↦ omega arith | inr e ↦ omega arith ];
            below = λ l. let a = apart.below (omega arith) in omega arith;
          };
    }

  same_early : (ws : List Window) → Ahead ws → (h : ℕ) → offset_at P f h ≡ offset_at (retimed P ws) f h → SameEarly (suc h) ws
  same_early ws ahead h e = let n = early_next P f ws ahead h in omega arith

  pub keeps_lesser : (xs ys : List Window) → Ahead xs → Ahead ys → FlowKeeps (retimed P xs) f → FlowKeeps (retimed P ys) f
      → ((h : ℕ) → h < hop_count P f → (offset_at P f h ≡ offset_at (retimed P xs) f h) ⊎ (offset_at P f h ≡ offset_at (retimed P ys) f h)) → FlowKeeps P f
  keeps_lesser xs ys ax ay kx ky one h has =
      elim (one h has) [
        | inl e ↦ keeps_here xs ys ax ay kx ky h has e (early h has)
        | inr e ↦ keeps_here ys xs ay ax ky kx h has e (elim (early h has) [ inl a ↦ inr a | inr b ↦ inl b ])
      ]
    where
      early : (h : ℕ) → h < hop_count P f → SameEarly h xs ⊎ SameEarly h ys
      early zero lt = inl refl
      early (suc h) lt = elim (one h (omega arith)) [ inl e ↦ inl (same_early xs ax h e) | inr e ↦ inr (same_early ys ay h e) ]

minima_length : (xs ys : List ℕ) → length xs ≡ length ys → length (minima xs ys) ≡ length xs
minima_length [] ys e = refl
minima_length (x ∷ xs) [] e = absurd (omega arith)
minima_length (x ∷ xs) (y ∷ ys) e = ap suc (minima_length xs ys (omega arith))

-- at each place the minimum is one of the two, and above neither
LeastOf : ℕ → ℕ → ℕ → Type 0
LeastOf m x y = (m ≤ x) × (m ≤ y) × ((m ≡ x) ⊎ (m ≡ y))

minima_at : (xs ys : List ℕ) → length xs ≡ length ys → (h : ℕ) → h < length xs → LeastOf (get_or (minima xs ys) h 0) (get_or xs h 0) (get_or ys h 0)
unfolding LeastOf
minima_at [] ys e h lt = absurd (omega arith)
minima_at (x ∷ xs) [] e h lt = absurd (omega arith)
minima_at (x ∷ xs) (y ∷ ys) e zero lt = (omega arith, omega arith, elim (cases_lt x y) [ inl l ↦ inl (omega arith) | inr l ↦ inr (omega arith) ])
minima_at (x ∷ xs) (y ∷ ys) e (suc h) lt = minima_at xs ys (omega arith) h (omega arith)

module _ (P : Plan) (stretches : StretchesHeld P.flows P.windows) (release octets deadline : ℕ) (route xs ys : List ℕ)
    (fits_x : FitsBeside P release octets deadline route xs) (fits_y : FitsBeside P release octets deadline route ys) where
  abbrev least : List ℕ
  least = minima xs ys

  abbrev lesser : Plan
  lesser = with_flow P release octets deadline route least

  same : length xs ≡ length ys
  same = fits_x.0 ∙ sym fits_y.0

  long : length least ≡ length route
  long = minima_length xs ys same ∙ fits_x.0

  at : (h : ℕ) → h < length route → LeastOf (get_or least h 0) (get_or xs h 0) (get_or ys h 0)
  at h lt = minima_at xs ys same h (omega (arith, fits_x.0))

  ahead : (os : List ℕ) → length os ≡ length route → ((h : ℕ) → h < length route → get_or least h 0 ≤ get_or os h 0) → Ahead lesser (flow_count P) (all_behind P stretches release octets deadline route least) (P.windows ++ windows_along route os)
  ahead os e le =
      subst (λ (x : Flow). Later x.first x.hops (P.windows ++ windows_along route least) (P.windows ++ windows_along route os)) (sym (new_flow P stretches release octets deadline route least))
      (later_from P stretches release octets deadline route least os long e le)

  pub lesser_fits : FitsBeside P release octets deadline route least
  unfolding LeastOf
  lesser_fits = (
    long,
    keeps_lesser lesser (flow_count P) (all_behind P stretches release octets deadline route least) (P.windows ++ windows_along route xs) (P.windows ++ windows_along route ys)
        (ahead xs fits_x.0 (λ h lt. (at h lt).0)) (ahead ys fits_y.0 (λ h lt. (at h lt).1)) fits_x.1 fits_y.1 one,
  )
    where
      one : (h : ℕ) → h < hop_count lesser (flow_count P) → (offset_at lesser (flow_count P) h ≡ offset_at (with_flow P release octets deadline route xs) (flow_count P) h) ⊎ (offset_at lesser (flow_count P) h ≡ offset_at (with_flow P release octets deadline route ys) (flow_count P) h)
      one h lt =
          let in_route : h < length route = omega (arith, new_hops P stretches release octets deadline route least) in
          let m = placed_offset P stretches release octets deadline route least long h in_route in
          let x = placed_offset P stretches release octets deadline route xs fits_x.0 h in_route in
          let y = placed_offset P stretches release octets deadline route ys fits_y.0 h in_route in
          elim (at h in_route).2 [ inl e ↦ inl (m ∙ e ∙ sym x) | inr e ↦ inr (m ∙ e ∙ sym y) ]
