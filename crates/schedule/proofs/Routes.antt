-- The hops of a flow are at different ports.
use Rattle.std.proofs.Common.{◌≡◌, ℕ, ◌<◌, List, map, length, get_or, take, drop, vec_items, vec_len, sym, ap, ◌∙◌, arith}
use Rattle.std.proofs.lemmas.List.{length-map, length-drop, length-take-le, get_or-map, get_or-take, get_or-drop}
use Rattle.schedule.specs.declared.tables.Window.{Window}
use Rattle.schedule.specs.declared.draft.Draft.{Draft}
use Rattle.schedule.specs.Plan.{no_window, flow_count, hop_count, port_at, flow_at}
use Rattle.schedule.specs.Drafts.{plan_of}
use Rattle.schedule.proofs.Limited.{differ_apart}

module _ (d : Draft) (f : ℕ) (lf : f < flow_count (plan_of d)) where
  abbrev hops : List Window
  hops = take (hop_count (plan_of d) f) (drop (flow_at (plan_of d) f).first (vec_items d.windows))

  hops_length : length hops ≡ hop_count (plan_of d) f
  hops_length = length-take-le (hop_count (plan_of d) f) (drop (flow_at (plan_of d) f).first (vec_items d.windows))
      (omega (arith, (d.stretches f lf).2, length-drop (flow_at (plan_of d) f).first (vec_items d.windows)))

  route_at : (h : ℕ) → h < hop_count (plan_of d) f → get_or (map (λ (w : Window). w.port) hops) h 0 ≡ port_at (plan_of d) f h
  route_at h lt =
      get_or-map (λ (w : Window). w.port) hops h no_window 0 (omega (arith, hops_length))
      ∙ ap (λ (w : Window). w.port) (get_or-take (hop_count (plan_of d) f) (drop (flow_at (plan_of d) f).first (vec_items d.windows)) h no_window lt
      ∙ get_or-drop (flow_at (plan_of d) f).first (vec_items d.windows) h no_window)

  pub ports_apart : (h k : ℕ) → h < k → k < hop_count (plan_of d) f → port_at (plan_of d) f h ≡ port_at (plan_of d) f k → ⊥
  ports_apart h k lt lk e =
      differ_apart (vec_len d.ports) (map (λ (w : Window). w.port) hops) (d.routes f lf) h k lt (omega (arith, hops_length, length-map hops (λ (w : Window). w.port)))
      (route_at h (omega arith) ∙ e ∙ sym (route_at k lk))
