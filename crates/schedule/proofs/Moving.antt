-- A window table with one offset raised: what it keeps, and how it stands among later ones.
use Rattle.std.proofs.Common.{◌≡◌, ℕ, zero, suc, ◌+◌, ◌<◌, ◌≤◌, List, [], ◌∷◌, map, length, get_or, take, drop, set, sym, ap, ◌∙◌, subst, inl, inr, arith}
use Rattle.std.proofs.lemmas.List.{length-set, get_or-set_same, get_or-set_other, set-get_or, take-set-le, map-set, take-map, drop-map}
use Rattle.std.proofs.lemmas.Bool.{cases_eq}
use Rattle.schedule.specs.declared.tables.Flow.{Flow}
use Rattle.schedule.specs.declared.tables.Window.{Window}
use Rattle.schedule.specs.Plan.{no_flow, no_window}
use Rattle.schedule.specs.Limits.{ports_differ}
use Rattle.schedule.specs.Held.{StretchesHeld, WindowsHeld, RoutesHeld}
use Rattle.schedule.specs.Raising.{Later, set_offset, rise_left, TablesKeep}
use Rattle.schedule.proofs.Raising.{getD_map_all}

abbrev port_of : Window → ℕ
port_of w = w.port

moved_ports : (ws : List Window) (i to : ℕ) → map port_of (set_offset ws i to) ≡ map port_of ws
moved_ports ws i to =
    map-set port_of ws i (record { port = (get_or ws i no_window).port; offset = to })
    ∙ ap (set (map port_of ws) i) (sym (getD_map_all port_of ws i no_window))
    ∙ set-get_or (map port_of ws) i 0

-- a table with the same ports and the same length has the same routes
routes_alike : (ports : ℕ) (fs : List Flow) (ws others : List Window) → map port_of others ≡ map port_of ws → RoutesHeld ports fs ws → RoutesHeld ports fs others
routes_alike ports fs ws others e routes f lt =
    let n = (get_or fs f no_flow).hops in
    let m = (get_or fs f no_flow).first in
    let part : (l : List Window) → map port_of (take n (drop m l)) ≡ take n (drop m (map port_of l)) = λ l. sym (ap (take n) (drop-map port_of m l) ∙ take-map port_of n (drop m l)) in
    ap (ports_differ ports) (part others ∙ ap (λ (l : List ℕ). take n (drop m l)) e ∙ sym (part ws)) ∙ routes f lt

module _ (ws : List Window) (i to : ℕ) (lt : i < length ws) where
  moved_here : get_or (set_offset ws i to) i no_window ≡ record { port = (get_or ws i no_window).port; offset = to }
  moved_here = get_or-set_same ws i (record { port = (get_or ws i no_window).port; offset = to }) no_window lt

  moved_else : (j : ℕ) → (j ≡ i → ⊥) → get_or (set_offset ws i to) j no_window ≡ get_or ws j no_window
  moved_else j ne = get_or-set_other ws i j (record { port = (get_or ws i no_window).port; offset = to }) no_window ne

  moved_length : length (set_offset ws i to) ≡ length ws
  moved_length = length-set ws i (record { port = (get_or ws i no_window).port; offset = to })

  pub held_after_move : (cycle ports : ℕ) (fs : List Flow) → TablesKeep cycle ports fs ws → to < cycle → (others : List Window) → others ≡ set_offset ws i to → TablesKeep cycle ports fs others
  held_after_move cycle ports fs (tables, flows, stretches, windows, routes, order) low others is =
      subst (TablesKeep cycle ports fs) (sym is) ((tables.0, omega (arith, moved_length)), flows, more_stretches, more_windows, routes_alike ports fs ws (set_offset ws i to) (moved_ports ws i to) routes, order)
    where
      more_stretches : StretchesHeld fs (set_offset ws i to)
      more_stretches f h = let (a, b, e) = stretches f h in (a, b, omega (arith, moved_length))

      more_windows : WindowsHeld cycle ports (set_offset ws i to)
      more_windows j h =
          let Fine : Window → Type 0 = λ w. (w.port < ports) × (w.offset < cycle) in
          elim (cases_eq j i) [
            | inl e ↦ subst Fine (sym (ap (λ j. get_or (set_offset ws i to) j no_window) e ∙ moved_here)) ((windows i lt).0, low)
            | inr ne ↦ subst Fine (sym (moved_else j ne)) (windows j (omega (arith, moved_length)))
          ]

-- the room that is left grows less
pub rise_falls : (cycle : ℕ) (ws : List Window) (i to : ℕ) → i < length ws → (get_or ws i no_window).offset < to → to < cycle → rise_left cycle (set_offset ws i to) < rise_left cycle ws
rise_falls cycle [] i to lt up low = absurd (omega arith)
rise_falls cycle (w ∷ ws) zero to lt up low = omega arith
rise_falls cycle (w ∷ ws) (suc i) to lt up low = let r = rise_falls cycle ws i to (omega arith) up low in omega arith

pub later_trans : (first hops : ℕ) (xs ys zs : List Window) → Later first hops xs ys → Later first hops ys zs → Later first hops xs zs
later_trans first hops xs ys zs p q = record {
  alike = q.alike ∙ p.alike;
  ports = q.ports ∙ p.ports;
  later = λ h lt. let a = p.later h lt in let b = q.later h lt in omega arith;
}

module _ (first hops : ℕ) (ws : List Window) (h to : ℕ) (lt : first + h < length ws) where
  offset_here : (get_or (set_offset ws (first + h) to) (first + h) no_window).offset ≡ to
  offset_here = ap (λ (w : Window). w.offset) (moved_here ws (first + h) to lt)

  offset_else : (k : ℕ) → (k ≡ h → ⊥) → (get_or (set_offset ws (first + h) to) (first + k) no_window).offset ≡ (get_or ws (first + k) no_window).offset
  offset_else k ne = ap (λ (w : Window). w.offset) (moved_else ws (first + h) to lt (first + k) (λ e. ne (omega arith)))

  same_before : take first (set_offset ws (first + h) to) ≡ take first ws
  same_before = take-set-le first ws (first + h) (record { port = (get_or ws (first + h) no_window).port; offset = to }) (omega arith)

  pub later_raised : (get_or ws (first + h) no_window).offset ≤ to → Later first hops ws (set_offset ws (first + h) to)
  later_raised up = record { alike = same_before; ports = moved_ports ws (first + h) to; later = up_at }
    where
      up_at : (k : ℕ) → k < hops → (get_or ws (first + k) no_window).offset ≤ (get_or (set_offset ws (first + h) to) (first + k) no_window).offset
      up_at k l =
          elim (cases_eq k h) [
            | inl e ↦ (let a = ap (λ k. (get_or (set_offset ws (first + h) to) (first + k) no_window).offset) e ∙ offset_here in let b = ap (λ k. (get_or ws (first + k) no_window).offset) e in omega arith)
            | inr ne ↦ omega (arith, offset_else k ne)
          ]

  pub raised_later : (others : List Window) → Later first hops ws others → to ≤ (get_or others (first + h) no_window).offset → Later first hops (set_offset ws (first + h) to) others
  raised_later others old up = record { alike = old.alike ∙ sym same_before; ports = old.ports ∙ sym (moved_ports ws (first + h) to); later = up_at }
    where
      up_at : (k : ℕ) → k < hops → (get_or (set_offset ws (first + h) to) (first + k) no_window).offset ≤ (get_or others (first + k) no_window).offset
      up_at k l =
          elim (cases_eq k h) [
            | inl e ↦ (let a = ap (λ k. (get_or (set_offset ws (first + h) to) (first + k) no_window).offset) e ∙ offset_here in let b = ap (λ k. (get_or others (first + k) no_window).offset) e in omega arith)
            | inr ne ↦ (let o = old.later k l in omega (arith, offset_else k ne))
          ]
