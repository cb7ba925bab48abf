-- A new flow beside the old ones: its offsets as other windows of one plan, and back.
use Rattle.std.proofs.Common.{◌≡◌, ℕ, zero, suc, ◌+◌, ◌-◌, ◌<◌, ◌≤◌, Bool, true, false, List, [], ◌∷◌, ◌++◌, map, length, get_or, take, drop, sym, refl, ap, ◌∙◌, subst, inl, inr, arith}
use Rattle.std.proofs.lemmas.List.{length-map, get_or_append_left, get_or-append_right, get_or-append-add, take_at, drop_at, take-append-drop, drop-map, map-append}
use Rattle.std.proofs.lemmas.Bool.{both_ways}
use Rattle.schedule.specs.declared.tables.Flow.{Flow}
use Rattle.schedule.specs.declared.tables.Window.{Window}
use Rattle.schedule.specs.Plan.{Plan, no_flow, no_window, flow_count, flow_at, hop_count, offset_at}
use Rattle.schedule.specs.Rules.{FlowKeeps}
use Rattle.schedule.specs.Held.{StretchesHeld}
use Rattle.schedule.specs.Drafts.{windows_along, with_flow}
use Rattle.schedule.specs.Placing.{FitsBeside, Earlier, last_offset, Before, LeastPlacement, NoneFit}
use Rattle.schedule.specs.Raising.{retimed, cut_back, Later, Behind, Solves, Raises}
use Rattle.schedule.proofs.Along.{along_at, along_ports}

-- windows are their ports and offsets
along_parts : (ws : List Window) → windows_along (map (λ (w : Window). w.port) ws) (map (λ (w : Window). w.offset) ws) ≡ ws
along_parts [] = refl
along_parts (w ∷ ws) = ap (λ (l : List Window). w ∷ l) (along_parts ws)

-- what is nowhere greater does not come later
not_earlier : (xs ys : List ℕ) → ((h : ℕ) → h < length ys → get_or ys h 0 ≤ get_or xs h 0) → Earlier xs ys → ⊥
not_earlier [] ys least before = before
not_earlier (x ∷ xs) [] least before = before
not_earlier (x ∷ xs) (y ∷ ys) least (inl lt) = let le = least 0 (omega arith) in omega arith
not_earlier (x ∷ xs) (y ∷ ys) least (inr (e, before)) = not_earlier xs ys (λ h lt. least (suc h) (omega arith)) before

pub not_before : (xs ys : List ℕ) → length xs ≡ length ys → 1 ≤ length ys → ((h : ℕ) → h < length ys → get_or ys h 0 ≤ get_or xs h 0) → Before xs ys → ⊥
not_before xs ys same some least = not_earlier (last_offset xs ∷ xs) (last_offset ys ∷ ys) both
  where
    both : (h : ℕ) → h < length (last_offset ys ∷ ys) → get_or (last_offset ys ∷ ys) h 0 ≤ get_or (last_offset xs ∷ xs) h 0
    both zero lt = let le = least (length ys - 1) (omega arith) in let e = ap (λ n. get_or xs (n - 1) 0) same in omega arith
    both (suc h) lt = least h (omega arith)

module _ (P : Plan) (stretches : StretchesHeld P.flows P.windows) (release octets deadline : ℕ) (route : List ℕ) where
  abbrev flow : Flow
  flow = record { release = release; octets = octets; deadline = deadline; first = length P.windows; hops = length route }

  abbrev beside : List ℕ → Plan
  beside = with_flow P release octets deadline route

  abbrev table : List ℕ → List Window
  table os = P.windows ++ windows_along route os

  pub new_flow : (os : List ℕ) → flow_at (beside os) (flow_count P) ≡ flow
  new_flow os =
      let z : flow_count P - flow_count P ≡ 0 = omega arith in
      get_or-append_right P.flows (flow ∷ []) (flow_count P) (flow_count P) no_flow refl (omega arith) ∙ ap (λ n. get_or (flow ∷ []) n no_flow) z

  pub new_first : (os : List ℕ) → (flow_at (beside os) (flow_count P)).first ≡ length P.windows
  new_first os = ap (λ (x : Flow). x.first) (new_flow os)

  pub new_hops : (os : List ℕ) → hop_count (beside os) (flow_count P) ≡ length route
  new_hops os = ap (λ (x : Flow). x.hops) (new_flow os)

  pub all_behind : (os : List ℕ) → Behind (beside os) (flow_count P)
  all_behind os g lt =
      let e = get_or_append_left P.flows (flow ∷ []) no_flow g lt in
      let a = ap (λ (x : Flow). x.first) e in
      let b = ap (λ (x : Flow). x.hops) e in
      let s = (stretches g lt).2 in
      omega (arith, new_first os)

  table_take : (os : List ℕ) → take (length P.windows) (table os) ≡ P.windows
  table_take os = take_at P.windows (windows_along route os) (length P.windows) refl

  table_offset : (os : List ℕ) → length os ≡ length route → (h : ℕ) → h < length route → (get_or (table os) (length P.windows + h) no_window).offset ≡ get_or os h 0
  table_offset os e h lt = ap (λ (w : Window). w.offset) (get_or-append-add P.windows (windows_along route os) h no_window ∙ along_at route os e h lt)

  table_ports : (os : List ℕ) → length os ≡ length route → map (λ (w : Window). w.port) (table os) ≡ map (λ (w : Window). w.port) P.windows ++ route
  table_ports os e = map-append (λ (w : Window). w.port) P.windows (windows_along route os) ∙ ap (λ (l : List ℕ). map (λ (w : Window). w.port) P.windows ++ l) (along_ports route os e)

  pub placed_offset : (os : List ℕ) → length os ≡ length route → (h : ℕ) → h < length route → offset_at (beside os) (flow_count P) h ≡ get_or os h 0
  placed_offset os e h lt = ap (λ n. (get_or (table os) (n + h) no_window).offset) (new_first os) ∙ table_offset os e h lt

  -- greater offsets are later windows
  pub later_from : (zs os : List ℕ) → length zs ≡ length route → length os ≡ length route → ((h : ℕ) → h < length route → get_or zs h 0 ≤ get_or os h 0) → Later (length P.windows) (length route) (table zs) (table os)
  later_from zs os ze oe le = record {
    alike = table_take os ∙ sym (table_take zs);
    ports = table_ports os oe ∙ sym (table_ports zs ze);
    later = λ h lt. let a = table_offset zs ze h lt in let b = table_offset os oe h lt in let l = le h lt in omega arith;
  }

  pub later_to : (zs os : List ℕ) → length zs ≡ length route → length os ≡ length route → Later (length P.windows) (length route) (table zs) (table os) → (h : ℕ) → h < length route → get_or zs h 0 ≤ get_or os h 0
  later_to zs os ze oe l h lt = let a = table_offset zs ze h lt in let b = table_offset os oe h lt in let le = l.later h lt in omega arith

  -- offsets that fit are a solution above the lowest
  pub solves_from : (zs os : List ℕ) → length zs ≡ length route → ((h : ℕ) → h < length route → get_or zs h 0 ≤ get_or os h 0) → FitsBeside P release octets deadline route os → Solves (beside zs) (flow_count P) (table os)
  solves_from zs os ze le fits =
      let e = new_flow zs in
      (subst (λ (x : Flow). Later x.first x.hops (table zs) (table os)) (sym e) (later_from zs os ze fits.0 le), fits.1)

  -- other windows of the plan are other offsets
  module _ (zs : List ℕ) (ze : length zs ≡ length route) (ws : List Window) (moved : Later (length P.windows) (length route) (table zs) ws) where
    abbrev found : List ℕ
    found = map (λ (w : Window). w.offset) (drop (length P.windows) ws)

    found_ports : map (λ (w : Window). w.port) (drop (length P.windows) ws) ≡ route
    found_ports =
        let n = length P.windows in
        let olds = map (λ (w : Window). w.port) P.windows in
        sym (drop-map (λ (w : Window). w.port) n ws) ∙ ap (drop n) (moved.ports ∙ table_ports zs ze) ∙ drop_at olds route n (length-map P.windows (λ (w : Window). w.port))

    pub found_length : length found ≡ length route
    found_length =
        length-map (drop (length P.windows) ws) (λ (w : Window). w.offset) ∙ sym (length-map (drop (length P.windows) ws) (λ (w : Window). w.port)) ∙ ap length found_ports

    pub found_table : ws ≡ table found
    found_table =
        let n = length P.windows in
        sym (take-append-drop n ws) ∙ ap (λ (l : List Window). l ++ drop n ws) (moved.alike ∙ table_take zs)
        ∙ ap (λ (l : List Window). P.windows ++ l) (sym (along_parts (drop n ws)) ∙ ap (λ (l : List ℕ). windows_along l found) found_ports)

  -- what raising finds from the lowest offsets
  module _ (some : 1 ≤ length route) (zs : List ℕ) (ze : length zs ≡ length route) (low : (h : ℕ) → get_or zs h 0 ≡ 0) (reply : Bool) (after : Plan) (raised : Raises (beside zs) (flow_count P) reply after) where
    moved : Later (length P.windows) (length route) (table zs) after.windows
    moved = subst (λ (x : Flow). Later x.first x.hops (table zs) after.windows) (new_flow zs) raised.no_earlier

    abbrev offsets : List ℕ
    offsets = found zs ze after.windows moved

    pub old_again : cut_back after (flow_count P) (length P.windows) ≡ P
    old_again =
        let n = length P.windows in
        let fs = take_at P.flows (flow ∷ []) (flow_count P) refl in
        let ws = moved.alike ∙ table_take zs in
        ap (λ (p : Plan). cut_back p (flow_count P) n) raised.only_windows ∙ (λ i. record { cycle = P.cycle; error = P.error; extension = P.extension; ports = P.ports; flows = fs i; windows = ws i })

    solves : (os : List ℕ) → FitsBeside P release octets deadline route os → Solves (beside zs) (flow_count P) (table os)
    solves os fits = solves_from zs os ze (λ h lt. let z = low h in omega arith) fits

    pub none_fit : reply ≡ false → NoneFit P release octets deadline route
    none_fit e os fits = both_ways reply e (raised.least (table os) (solves os fits)).0

    placed_is : after ≡ beside offsets
    placed_is = raised.only_windows ∙ ap (retimed (beside zs)) (found_table zs ze after.windows moved)

    no_later : (os : List ℕ) → FitsBeside P release octets deadline route os → Later (length P.windows) (length route) (table offsets) (table os)
    no_later os fits =
        let l = subst (λ (x : Flow). Later x.first x.hops after.windows (table os)) (new_flow zs) (raised.least (table os) (solves os fits)).1 in
        subst (λ (ws : List Window). Later (length P.windows) (length route) ws (table os)) (found_table zs ze after.windows moved) l

    pub placed : reply ≡ true → (os : List ℕ) × LeastPlacement P release octets deadline route os × (after ≡ beside os)
    placed e =
        let oe = found_length zs ze after.windows moved in (
          offsets,
          record {
            fits = (oe, subst (λ (p : Plan). FlowKeeps p (flow_count P)) placed_is (raised.solves e));
            least = λ others fits. not_before others offsets (fits.0 ∙ sym oe) (omega arith) (λ h lt. later_to offsets others oe fits.0 (no_later others fits) h (omega arith));
          },
          placed_is,
        )
