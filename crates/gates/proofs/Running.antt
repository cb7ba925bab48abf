-- A gate list in the making, from change to change.
use Rattle.std.proofs.Common.{◌≡◌, ℕ, ◌+◌, ◌-◌, ◌<◌, ◌≤◌, List, [], ◌∷◌, ◌++◌, length, sym, refl, ap, ◌∙◌, subst, inl, inr, arith}
use Rattle.std.proofs.lemmas.List.{length_push}
use Rattle.std.proofs.lemmas.Bool.{cases_lt}
use Rattle.schedule.specs.Plan.{Plan}
use Rattle.schedule.specs.declared.checked.CheckedPlan.{CheckedPlan}
use Rattle.schedule.specs.Checks.{checked_plan}
use Rattle.gates.specs.declared.entry.GateEntry.{GateEntry}
use Rattle.gates.specs.declared.list.stretch.Stretch.{Stretch}
use Rattle.gates.specs.Octets.{octet_at}
use Rattle.gates.specs.Scan.{stretch_after}
use Rattle.gates.specs.Lists.{total, yields, Lasting, Changing, IsGateList}
use Rattle.gates.proofs.Meets.{stretch_octet}
use Rattle.gates.proofs.Edges.{until_le, until_gt, octet_stays}
use Rattle.gates.proofs.Counts.{edges_after, stretch_fewer, edges_most}
use Rattle.gates.proofs.Entries.{EndsOther, total_push, yields_before, yields_last, lasting_push, changing_push, ends_push}

-- the entries are right up to `begun`; from there to the end of the stretch the octet is that of the stretch
pub record Running (P : Plan) (p : ℕ) (es : List GateEntry) (begun : ℕ) (s : Stretch) : Type 0 where
  pub filled : total es ≡ begun
  pub begins : begun < s.until
  pub within : s.until ≤ P.cycle
  pub done : (x : ℕ) → x < begun → yields es x ≡ octet_at P p x
  pub stays : (x : ℕ) → begun ≤ x → x < s.until → octet_at P p x ≡ s.octet
  pub lasting : Lasting es
  pub changing : Changing es
  pub other : EndsOther es s.octet
  pub few : length es ≤ 48
  pub left : s.until < P.cycle → length es + edges_after P p s.until < 48

module _ (c : CheckedPlan) (p : ℕ) where
  abbrev P : Plan
  P = checked_plan c

  -- every tick of a stretch has its octet
  over : (t x : ℕ) → t ≤ x → x < (stretch_after P p t).until → octet_at P p x ≡ (stretch_after P p t).octet
  over t x le lt = octet_stays P p t x le lt ∙ sym (stretch_octet P p t)

  pub running_start : (es : List GateEntry) → es ≡ [] → (s : Stretch) → s ≡ stretch_after P p 0 → Running P p es 0 s
  running_start es none s is = subst (λ (l : List GateEntry). Running P p l 0 s) (sym none) (subst (λ (r : Stretch). Running P p [] 0 r) (sym is)
      (record {
        filled = refl;
        begins = until_gt P p 0 (omega (arith, c.draft.timing.0));
        within = until_le P p 0;
        done = λ x h. absurd (omega arith);
        stays = λ x h k. over 0 x h k;
        lasting = λ i h. absurd (omega arith);
        changing = λ i h e. absurd (omega arith);
        other = λ i h e. absurd (omega arith);
        few = omega arith;
        left = λ h. omega (arith, stretch_fewer P p 0 h, edges_most c p 0);
      }))

  module _ (es : List GateEntry) (begun : ℕ) (s : Stretch) (run : Running P p es begun s) where
    -- the next stretch has the same octet
    pub running_on : s.until < P.cycle → (r : Stretch) → r ≡ stretch_after P p s.until → r.octet ≡ s.octet → Running P p es begun r
    running_on lt r is same =
        let until = ap (λ (q : Stretch). q.until) is in
        let octet = ap (λ (q : Stretch). q.octet) is in
        let gt = until_gt P p s.until lt in
        let b = run.begins in
        record {
          filled = run.filled;
          begins = omega arith;
          within = omega (arith, until_le P p s.until);
          done = run.done;
          stays = λ x h k. elim (cases_lt x s.until) [
            | inl l ↦ run.stays x h l ∙ sym same
            | inr l ↦ over s.until x l (omega arith) ∙ sym octet
          ];
          lasting = run.lasting;
          changing = run.changing;
          other = λ i h e. run.other i h (e ∙ same);
          few = run.few;
          left = λ h. let fewer = stretch_fewer P p s.until (omega arith) in let l = run.left lt in let e = ap (edges_after P p) until in omega arith;
        }

    -- the next stretch has another octet, so an entry ends here
    pub running_push : s.until < P.cycle → (r : Stretch) → r ≡ stretch_after P p s.until → (r.octet ≡ s.octet → ⊥)
        → (es' : List GateEntry) → es' ≡ es ++ record { octet = s.octet; ticks = s.until - begun } ∷ [] → Running P p es' s.until r
    running_push lt r is differs es' pushed = subst (λ (l : List GateEntry). Running P p l s.until r) (sym pushed)
        (let until = ap (λ (q : Stretch). q.until) is in
        let octet = ap (λ (q : Stretch). q.octet) is in
        let gt = until_gt P p s.until lt in
        let b = run.begins in
        let f = run.filled in
        let e : GateEntry = record { octet = s.octet; ticks = s.until - begun } in
        record {
          filled = omega (arith, total_push es e);
          begins = omega arith;
          within = omega (arith, until_le P p s.until);
          done = λ x h. elim (cases_lt x begun) [
            | inl l ↦ yields_before es e x (omega arith) ∙ run.done x l
            | inr l ↦ yields_last es e x (omega arith) (omega arith) ∙ sym (run.stays x l h)
          ];
          stays = λ x h k. over s.until x h (omega arith) ∙ sym octet;
          lasting = lasting_push es e run.lasting (omega arith);
          changing = changing_push es e run.changing run.other;
          other = ends_push es e r.octet (λ q. differs (sym q));
          few = let l = run.left lt in omega (arith, length_push es e);
          left = λ h. let fewer = stretch_fewer P p s.until (omega arith) in let l = run.left lt in let k = ap (edges_after P p) until in omega (arith, length_push es e);
        })

    -- the last entry runs to the end of the cycle
    pub finished : P.cycle ≤ s.until → (es' : List GateEntry) → es' ≡ es ++ record { octet = s.octet; ticks = P.cycle - begun } ∷ [] → IsGateList P p es'
    finished le es' pushed = subst (λ (l : List GateEntry). IsGateList P p l) (sym pushed)
        (let e : GateEntry = record { octet = s.octet; ticks = P.cycle - begun } in
        let b = run.begins in
        let w = run.within in
        let f = run.filled in
        record {
          yielding = λ x h. elim (cases_lt x begun) [
            | inl l ↦ yields_before es e x (omega arith) ∙ run.done x l
            | inr l ↦ yields_last es e x (omega arith) (omega arith) ∙ sym (run.stays x l (omega arith))
          ];
          lasting = lasting_push es e run.lasting (omega arith);
          changing = changing_push es e run.changing run.other;
          whole = omega (arith, total_push es e);
          few = omega (arith, length_push es e, run.few);
        })
