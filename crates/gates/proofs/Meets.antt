-- The octet read off the windows one by one is the octet that they give.
use Rattle.std.proofs.Common.{◌≡◌, ℕ, zero, suc, ◌+◌, ◌-◌, ◌*◌, ◌≤◌, Bool, true, false, cond, ◌&&◌, ◌||◌, eqb, ltb, leb, sym, refl, ap, ◌∙◌, inl, inr, arith}
use Rattle.std.proofs.Math.Bool.{or_assoc}
use Rattle.std.proofs.lemmas.Bool.Decides.{nat_tests}
use Rattle.std.proofs.lemmas.Bool.{cases_Bool}
use Rattle.schedule.specs.Plan.{Plan, flow_count, hop_count, port_at, offset_at, end_at}
use Rattle.gates.specs.declared.list.stretch.Stretch.{Stretch}
use Rattle.gates.specs.Octets.{some, inside, ahead, octet_by, octet_at}
use Rattle.gates.specs.Scan.{octet_with, stretch_with, stretch_at, stretch_hops, stretch_flows, open_stretch, stretch_after}

octet_step : (t d o e : ℕ) (w g : Bool) → o ≤ e → octet_with t (o - d) o e (octet_by w g) ≡ octet_by ((leb o t && ltb t e) || w) ((ltb t o && leb o (t + d)) || g)
octet_step t d o e true true oe = grind (arith, nat_tests)
octet_step t d o e true false oe = grind (arith, nat_tests)
octet_step t d o e false true oe = grind (arith, nat_tests)
octet_step t d o e false false oe = grind (arith, nat_tests)

module _ (P : Plan) (p t : ℕ) where
  hop_octet : (f h : ℕ) (s : Stretch) (w g : Bool) → s.octet ≡ octet_by w g → (stretch_at P p t f h s).octet ≡ octet_by (inside P p t f h || w) (ahead P p t f h || g)
  hop_octet f h s w g e = elim (cases_Bool (eqb (port_at P f h) p)) [
    | inl y ↦ (ap (λ (b : Bool). (cond b (stretch_with t (offset_at P f h - 2 * P.error) (offset_at P f h) (end_at P f h) s) s).octet) y
        ∙ ap (octet_with t (offset_at P f h - 2 * P.error) (offset_at P f h) (end_at P f h)) e
        ∙ octet_step t (2 * P.error) (offset_at P f h) (end_at P f h) w g (omega arith)
        ∙ sym (ap (λ b. octet_by ((b && (leb (offset_at P f h) t && ltb t (end_at P f h))) || w) ((b && (ltb t (offset_at P f h) && leb (offset_at P f h) (t + 2 * P.error))) || g)) y))
    | inr n ↦ (ap (λ (b : Bool). (cond b (stretch_with t (offset_at P f h - 2 * P.error) (offset_at P f h) (end_at P f h) s) s).octet) n
        ∙ e
        ∙ sym (ap (λ b. octet_by ((b && (leb (offset_at P f h) t && ltb t (end_at P f h))) || w) ((b && (ltb t (offset_at P f h) && leb (offset_at P f h) (t + 2 * P.error))) || g)) n))
  ]

  hops_octet : (f : ℕ) (s : Stretch) (w g : Bool) → s.octet ≡ octet_by w g → (n : ℕ)
      → (stretch_hops P p t f s n).octet ≡ octet_by (some n (inside P p t f) || w) (some n (ahead P p t f) || g)
  hops_octet f s w g e zero = e
  hops_octet f s w g e (suc n) =
      hop_octet f n (stretch_hops P p t f s n) (some n (inside P p t f) || w) (some n (ahead P p t f) || g) (hops_octet f s w g e n)
      ∙ sym (λ i. octet_by (or_assoc (inside P p t f n) (some n (inside P p t f)) w i) (or_assoc (ahead P p t f n) (some n (ahead P p t f)) g i))

  flows_octet : (n : ℕ) → (stretch_flows P p t (open_stretch P) n).octet
      ≡ octet_by (some n (λ f. some (hop_count P f) (inside P p t f))) (some n (λ f. some (hop_count P f) (ahead P p t f)))
  flows_octet zero = refl
  flows_octet (suc n) = hops_octet n (stretch_flows P p t (open_stretch P) n) (some n (λ f. some (hop_count P f) (inside P p t f))) (some n (λ f. some (hop_count P f) (ahead P p t f))) (flows_octet n) (hop_count P n)

  pub stretch_octet : (stretch_after P p t).octet ≡ octet_at P p t
  unfolding stretch_after octet_at
  stretch_octet = flows_octet (flow_count P)
