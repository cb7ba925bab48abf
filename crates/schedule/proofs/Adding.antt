-- A draft with one flow more keeps what every draft keeps.
use Rattle.std.proofs.Common.{◌≡◌, ℕ, zero, suc, ◌+◌, ◌-◌, ◌<◌, ◌≤◌, true, ◌&&◌, eqb, ltb, List, [], ◌∷◌, ◌++◌, map, length, get_or, take, drop, sym, refl, ap, ◌∙◌, subst, inl, inr, arith}
use Rattle.std.proofs.lemmas.List.{length-append, length-drop, length_push, get_or_append_left, get_or-append_right, take_all, take-append-le, drop-append-le, drop_at}
use Rattle.std.proofs.lemmas.Bool.{and_parts, ltb-true, eqb-true, cases_lt}
use Rattle.schedule.specs.declared.tables.Flow.{Flow}
use Rattle.schedule.specs.declared.tables.Window.{Window}
use Rattle.schedule.specs.Plan.{no_flow, no_window}
use Rattle.schedule.specs.Limits.{within, each_below, ports_differ, flow_allowed, route_allowed, offsets_allowed}
use Rattle.schedule.specs.Held.{TablesHeld, FlowsHeld, StretchesHeld, OrderHeld, WindowsHeld, RoutesHeld}
use Rattle.schedule.specs.Drafts.{windows_along}
use Rattle.schedule.proofs.Limited.{within_low, within_high, each_below_at, differ_at}
use Rattle.schedule.proofs.Along.{along_length, along_at, along_ports}

-- what holds of each element of two lists holds of each of both together
pub each_append : {X : Type 0} (d : X) (P : X → Type 0) (xs ys : List X) → ((i : ℕ) → i < length xs → P (get_or xs i d)) → ((i : ℕ) → i < length ys → P (get_or ys i d))
    → (i : ℕ) → i < length (xs ++ ys) → P (get_or (xs ++ ys) i d)
each_append d P xs ys left right i h =
    elim (cases_lt i (length xs)) [
      | inl l ↦ subst P (sym (get_or_append_left xs ys d i l)) (left i l)
      | inr l ↦ subst P (sym (get_or-append_right xs ys (length xs) i d refl l)) (right (i - length xs) (omega (arith, length-append xs ys)))
    ]

-- likewise with one more
pub each_push : {X : Type 0} (d : X) (P : X → Type 0) (xs : List X) (x : X) → ((i : ℕ) → i < length xs → P (get_or xs i d)) → P x
    → (i : ℕ) → i < length (xs ++ x ∷ []) → P (get_or (xs ++ x ∷ []) i d)
each_push {X} d P xs x left p = each_append d P xs (x ∷ []) left one
  where
    one : (i : ℕ) → i < 1 → P (get_or (x ∷ []) i d)
    one zero h = p
    one (suc i) h = absurd (omega arith)

module _ (cycle : ℕ) (route offsets : List ℕ) (spaced : offsets_allowed cycle route offsets ≡ true) where
  pub spaced_length : length offsets ≡ length route
  spaced_length = eqb-true (length offsets) (length route) (and_parts (eqb (length offsets) (length route)) (each_below cycle offsets) spaced).0

  pub spaced_below : (i : ℕ) → i < length offsets → get_or offsets i 0 < cycle
  spaced_below i = each_below_at cycle offsets (and_parts (eqb (length offsets) (length route)) (each_below cycle offsets) spaced).1 i 0

module _ (ports : ℕ) (route : List ℕ) (routed : route_allowed ports route ≡ true) where
  pub routed_differ : ports_differ ports route ≡ true
  routed_differ = (and_parts (within 1 6 (length route)) (ports_differ ports route) routed).1

  pub routed_least : 1 ≤ length route
  routed_least = within_low 1 6 (length route) (and_parts (within 1 6 (length route)) (ports_differ ports route) routed).0

  pub routed_most : length route ≤ 6
  routed_most = within_high 1 6 (length route) (and_parts (within 1 6 (length route)) (ports_differ ports route) routed).0

module _ (cycle ports : ℕ) (fs : List Flow) (ws : List Window)
    (tables : TablesHeld fs ws) (flows : FlowsHeld cycle fs) (stretches : StretchesHeld fs ws) (windows : WindowsHeld cycle ports ws) (routes : RoutesHeld ports fs ws)
    (few : length fs < 16) (release octets deadline : ℕ) (route offsets : List ℕ)
    (allowed : flow_allowed cycle release octets deadline ≡ true) (routed : route_allowed ports route ≡ true) (spaced : offsets_allowed cycle route offsets ≡ true) where
  abbrev flow : Flow
  flow = record { release = release; octets = octets; deadline = deadline; first = length ws; hops = length route }

  abbrev new : List Window
  new = windows_along route offsets

  same_length : length offsets ≡ length route
  same_length = spaced_length cycle route offsets spaced

  differ : ports_differ ports route ≡ true
  differ = routed_differ ports route routed

  new_length : length new ≡ length route
  new_length = along_length route offsets same_length

  flow_fits : (release < cycle) × (64 ≤ octets) × (octets ≤ 1522) × (1 ≤ deadline) × (deadline ≤ 1250000)
  flow_fits =
      let (a, b) = and_parts (ltb release cycle) (within 64 1522 octets && within 1 1250000 deadline) allowed in
      let (c, d) = and_parts (within 64 1522 octets) (within 1 1250000 deadline) b in
      (ltb-true release cycle a, within_low 64 1522 octets c, within_high 64 1522 octets c, within_low 1 1250000 deadline d, within_high 1 1250000 deadline d)

  more_windows : length (ws ++ new) ≡ length ws + length route
  more_windows = length-append ws new ∙ ap (λ n. length ws + n) new_length

  tables_more : TablesHeld (fs ++ flow ∷ []) (ws ++ new)
  tables_more =
      let a = length_push fs flow in
      let b = more_windows in
      let c = routed_most ports route routed in
      (omega arith, omega arith)

  flows_more : FlowsHeld cycle (fs ++ flow ∷ [])
  flows_more = each_push no_flow (λ (x : Flow). (x.release < cycle) × (64 ≤ x.octets) × (x.octets ≤ 1522) × (1 ≤ x.deadline) × (x.deadline ≤ 1250000)) fs flow flows flow_fits

  stretches_more : StretchesHeld (fs ++ flow ∷ []) (ws ++ new)
  stretches_more =
      let n = more_windows in
      each_push no_flow (λ (x : Flow). (1 ≤ x.hops) × (x.hops ≤ 6) × (x.first + x.hops ≤ length (ws ++ new))) fs flow
      (λ i h. let (a, b, e) = stretches i h in (a, b, omega arith))
      (routed_least ports route routed, routed_most ports route routed, omega arith)

  order_more : OrderHeld fs → OrderHeld (fs ++ flow ∷ [])
  order_more order f g lg lf =
      let n = length_push fs flow in
      let e = get_or_append_left fs (flow ∷ []) no_flow g (omega arith) in
      let first = ap (λ (x : Flow). x.first) e in
      let hops = ap (λ (x : Flow). x.hops) e in
      elim (cases_lt f (length fs)) [
        | inl l ↦ (let a = ap (λ (x : Flow). x.first) (get_or_append_left fs (flow ∷ []) no_flow f l) in omega (arith, order f g lg l))
        | inr l ↦
            (let z : f - length fs ≡ 0 = omega arith in
            let last = get_or-append_right fs (flow ∷ []) (length fs) f no_flow refl l ∙ ap (λ i. get_or (flow ∷ []) i no_flow) z in
            let a = ap (λ (x : Flow). x.first) last in
            omega (arith, (stretches g (omega arith)).2))
      ]

  windows_more : WindowsHeld cycle ports (ws ++ new)
  windows_more =
      each_append no_window (λ (w : Window). (w.port < ports) × (w.offset < cycle)) ws new windows
      (λ i h.
      let n = new_length in
      let m = same_length in
      let lt : i < length route = omega arith in
      let at = along_at route offsets same_length i lt in
      let p = ap (λ (w : Window). w.port) at in
      let o = ap (λ (w : Window). w.offset) at in
      let a = differ_at ports route differ i lt in
      let b = spaced_below cycle route offsets spaced i (omega arith) in
      (omega arith, omega arith))

  routes_more : RoutesHeld ports (fs ++ flow ∷ []) (ws ++ new)
  routes_more =
      each_push no_flow (λ (x : Flow). ports_differ ports (map (λ (w : Window). w.port) (take x.hops (drop x.first (ws ++ new)))) ≡ true) fs flow
      (λ i h.
      let s = (stretches i h).2 in
      let x = get_or fs i no_flow in
      let d = drop-append-le x.first ws new (omega arith) in
      let t = take-append-le x.hops (drop x.first ws) new (omega (arith, length-drop x.first ws)) in
      ap (λ (l : List Window). ports_differ ports (map (λ (w : Window). w.port) l)) (ap (take x.hops) d ∙ t) ∙ routes i h)
      (let n = new_length in
      let d = drop_at ws new (length ws) refl in
      let t = take_all (length route) new (omega arith) in
      ap (λ (l : List Window). ports_differ ports (map (λ (w : Window). w.port) l)) (ap (take (length route)) d ∙ t)
      ∙ ap (ports_differ ports) (along_ports route offsets same_length) ∙ differ)

  pub held_after_add : (fs' : List Flow) (ws' : List Window) → fs' ≡ fs ++ flow ∷ [] → ws' ≡ ws ++ new
      → TablesHeld fs' ws' × FlowsHeld cycle fs' × StretchesHeld fs' ws' × WindowsHeld cycle ports ws' × RoutesHeld ports fs' ws'
  held_after_add fs' ws' is_fs is_ws =
      let Held : List Flow → List Window → Type 0 = λ fs ws. TablesHeld fs ws × FlowsHeld cycle fs × StretchesHeld fs ws × WindowsHeld cycle ports ws × RoutesHeld ports fs ws in
      subst (λ (l : List Flow). Held l ws') (sym is_fs) (subst (λ (l : List Window). Held (fs ++ flow ∷ []) l) (sym is_ws)
      (tables_more, flows_more, stretches_more, windows_more, routes_more))

  -- and the new flow stands behind the others
  pub ordered_after_add : OrderHeld fs → (fs' : List Flow) → fs' ≡ fs ++ flow ∷ [] → OrderHeld fs'
  ordered_after_add order fs' is_fs = subst (λ (l : List Flow). OrderHeld l) (sym is_fs) (order_more order)
