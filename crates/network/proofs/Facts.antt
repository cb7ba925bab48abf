-- The whole timetable, with a change, in six facts; after that nobody looks at cycles, lists or holds.
use Rattle.std.proofs.lemmas.Grind.{common_steps}
use Rattle.std.proofs.Common.{◌≡◌, ℕ, suc, ◌+◌, ◌-◌, ◌*◌, ◌/◌, ◌<◌, ◌≤◌, true, ◌&&◌, eqb, ltb, leb, sym, refl, ap, ◌∙◌, inl, inr, mul-le-mul_right, div-add-mod', arith}
use Rattle.std.proofs.lemmas.Bool.{cases_lt, cases_eq, ltb-true, and_parts, le-leb, lt-leb}
use Rattle.schedule.specs.Plan.{Plan, flow_count, hop_count, port_at, offset_at, end_at, wire_of, crossed_at, early_at}
use Rattle.gates.specs.Octets.{inside, octet_at, opens}
use Rattle.gates.specs.Timetable.{Transition, steady, pending, replaced, hold_from, cyclic_octet, joint_octet, timetable}
use Rattle.network.specs.Windows.{Turn, cycle_begin, begin_of, OccursIn, OccursJoint, Occurs}
use Rattle.network.specs.Lawful.{Fit}
use Rattle.network.proofs.Turns.{turns, reach_of_turn, closes, rules, apart, early_le, opens_7_is, opens_7_has, opens_other, gate_is, some_hop_is}

-- the cycles of the plan in force that count
abbrev pub Counts : Plan → ℕ → Transition → ℕ → Type 0
Counts P B steady n = Unit {0}
Counts P B (pending Q T) n = cycle_begin P B n < hold_from P B T
Counts P B (replaced O A) n = Unit {0}

-- the plans are fit and for the same clocks, and follow each other
abbrev pub Sound : Plan → ℕ → Transition → Type 0
Sound P B steady = Fit P
Sound P B (pending Q T) = Fit P × Fit Q × (Q.error ≡ P.error) × (B ≤ T)
Sound P B (replaced O A) = Fit P × Fit O × (P.error ≡ O.error) × (A ≤ B)

pub record Facts (P : Plan) (B : ℕ) (tr : Transition) : Type 0 where
  pub fit : Fit P
  pub seven_is : (p l : ℕ) → opens (timetable P B tr p l) 7 ≡ true → (W : ℕ) × (w : ℕ) × Occurs P B tr p W w × (W ≤ l) × (l < W + w + 2 * P.error)
  pub seven_has : (p l W w : ℕ) → Occurs P B tr p W w → W ≤ l → l < W + w + 2 * P.error → opens (timetable P B tr p l) 7 ≡ true
  pub other : (p l c W w : ℕ) → c < 7 → opens (timetable P B tr p l) c ≡ true → Occurs P B tr p W w → W ≤ l + 2 * P.error → l < W + w + 2 * P.error → ⊥
  pub before : {p : ℕ} (i : Turn P p) (W w : ℕ) → Counts P B tr i.cycles → Occurs P B tr p W w → W < begin_of P B p i → W + w + 4 * P.error ≤ reach_of_turn P B p i
  pub later : {p : ℕ} (i : Turn P p) (W w : ℕ) → Counts P B tr i.cycles → Occurs P B tr p W w → begin_of P B p i < W → closes P B p i + 2 * P.error ≤ W
  pub own : {p : ℕ} (i : Turn P p) → Counts P B tr i.cycles → Occurs P B tr p (begin_of P B p i) (wire_of P i.flow)

-- a frame is off the link that it is on before the cycle ends
pub crossed_lt : (P : Plan) → Fit P → (f h : ℕ) → f < flow_count P → h < hop_count P f → crossed_at P f h + P.error < P.cycle
crossed_lt P fit f h fi hi = elim (cases_eq (suc h) (hop_count P f)) [
  | inl e ↦ (fit.good f fi h hi).delivered e
  | inr e ↦ (let r = (fit.good f fi (suc h) (omega arith)).reached in let s = (fit.good f fi (suc h) (omega arith)).ends in omega arith)
]

module _ (P : Plan) (B T : ℕ) (from : B ≤ T) where
  -- the hold begins with a cycle; a cycle that begins before it ends by then
  pub hold_le : (B ≤ hold_from P B T) × (hold_from P B T ≤ T)
  hold_le = let d = div-add-mod' (T - B) P.cycle in (omega arith, omega arith)

  pub hold_after : (n : ℕ) → cycle_begin P B n < hold_from P B T → cycle_begin P B n + P.cycle ≤ hold_from P B T
  hold_after n h =
      let d = div-add-mod' (T - B) P.cycle in
      elim (cases_lt n ((T - B) / P.cycle)) [
        | inl l ↦ omega (arith, turns n ((T - B) / P.cycle) P.cycle l)
        | inr l ↦ absurd (omega (arith, mul-le-mul_right P.cycle l))
      ]

-- no window reaches the last tick of the cycle
last_gate : (P : Plan) → Fit P → (p : ℕ) → opens (octet_at P p (P.cycle - 1)) 7 ≡ true → ⊥
last_gate P fit p e = elim (gate_is P 0 fit p (P.cycle - 1) 7 e) [
  | inl w ↦ (
      let x = P.cycle - 1 in
      let (f, h, fi, hi, q) = some_hop_is P (inside P p x) w.0 in
      let r = and_parts (eqb (port_at P f h) p) (leb (offset_at P f h) x && ltb x (end_at P f h)) q in
      let c = ltb-true x (end_at P f h) (and_parts (leb (offset_at P f h) x) (ltb x (end_at P f h)) r.1).1 in
      omega (arith, crossed_lt P fit f h fi hi, (fit.good f fi h hi).ends))
  | inr w ↦ omega (arith, w.2)
]

steady_facts : (P : Plan) (B : ℕ) → Fit P → Facts P B steady
steady_facts P B fit = record {
  fit = fit;
  seven_is = λ p l e. (let (i, a, b) = opens_7_is P B fit p l e in (begin_of P B p i, wire_of P i.flow, record { turn = i; begins = refl; long = refl }, a, b));
  seven_has = λ p l W w win h k. opens_7_has P B fit l win.turn (omega arith) (omega arith);
  other = λ p l c W w c7 e win h k. opens_other P B fit l c c7 e win.turn (omega arith) (omega arith);
  before = λ i W w _ win lt. omega (arith, apart P B fit win.turn i (omega arith));
  later = λ i W w _ win lt. omega (arith, apart P B fit i win.turn (omega arith), early_le P B fit win.turn.flow win.turn.hop win.turn.flow_in win.turn.hop_in);
  own = λ i _. record { turn = i; begins = refl; long = refl };
}

-- the joint timetable, in its three parts
module _ (P : Plan) (B : ℕ) (Q : Plan) (T p l : ℕ) where
  joint_new : T ≤ l → joint_octet P B Q T p l ≡ cyclic_octet Q T p l
  unfolding joint_octet
  joint_new h = rw (le-leb T l h) refl

  joint_held : l < T → hold_from P B T ≤ l → joint_octet P B Q T p l ≡ octet_at P p (P.cycle - 1)
  unfolding joint_octet
  joint_held h k = rw (lt-leb T l h, le-leb (hold_from P B T) l k) refl

  joint_old : l < T → l < hold_from P B T → joint_octet P B Q T p l ≡ cyclic_octet P B p l
  unfolding joint_octet
  joint_old h k = rw (lt-leb T l h, lt-leb (hold_from P B T) l k) refl

-- an octet that opens a class does so under another name
opens_as : {a b : ℕ} (c : ℕ) → a ≡ b → opens a c ≡ true → opens b c ≡ true
opens_as c e o = ap (λ x. opens x c) (sym e) ∙ o

module _ (P : Plan) (B : ℕ) (Q : Plan) (T : ℕ) (fP : Fit P) (fQ : Fit Q) (from : B ≤ T) (d : ℕ) (eP : P.error ≡ d) (eQ : Q.error ≡ d) where
  joint_7_is : (p l : ℕ) → opens (joint_octet P B Q T p l) 7 ≡ true → (W : ℕ) × (w : ℕ) × OccursJoint P B Q T p W w × (W ≤ l) × (l < W + w + 2 * d)
  joint_7_is p l e = elim (cases_lt l T) [
    | inr h ↦ (let (i, a, b) = opens_7_is Q T fQ p l (opens_as 7 (joint_new P B Q T p l h) e) in (begin_of Q T p i, wire_of Q i.flow, inr (record { turn = i; begins = refl; long = refl }), a, omega arith))
    | inl h ↦ elim (cases_lt l (hold_from P B T)) [
      | inr k ↦ absurd (last_gate P fP p (opens_as 7 (joint_held P B Q T p l h k) e))
      | inl k ↦ (let (i, a, b) = opens_7_is P B fP p l (opens_as 7 (joint_old P B Q T p l h k) e) in
          (begin_of P B p i, wire_of P i.flow, inl (record { turn = i; begins = refl; long = refl }, omega arith), a, omega arith))
    ]
  ]

  -- an old window, and the guard band after it, ends before the hold; a new one, and the guard band before it, begins after the change
  pub old_ends : {p W w : ℕ} (i : OccursIn P B p W w) → cycle_begin P B i.turn.cycles < hold_from P B T → W + w + 4 * d ≤ hold_from P B T
  old_ends i k = omega (arith, hold_after P B T from i.turn.cycles k, (rules P B fP i.turn).ends)

  pub new_begins : {p W w : ℕ} (i : OccursIn Q T p W w) → T + 2 * d ≤ W
  new_begins i = omega (arith, (rules Q T fQ i.turn).guarded)

  joint_7_has : (p l W w : ℕ) → OccursJoint P B Q T p W w → W ≤ l → l < W + w + 2 * d → opens (joint_octet P B Q T p l) 7 ≡ true
  joint_7_has p l W w (inl i) h k =
      let a = old_ends i.0 i.1 in let b = hold_le P B T from in let win = i.0 in
      opens_as 7 (sym (joint_old P B Q T p l (omega arith) (omega arith))) (opens_7_has P B fP l win.turn (omega arith) (omega arith))
  joint_7_has p l W w (inr win) h k =
      let a = new_begins win in
      opens_as 7 (sym (joint_new P B Q T p l (omega arith))) (opens_7_has Q T fQ l win.turn (omega arith) (omega arith))

  joint_other : (p l c W w : ℕ) → c < 7 → opens (joint_octet P B Q T p l) c ≡ true → OccursJoint P B Q T p W w → W ≤ l + 2 * d → l < W + w + 2 * d → ⊥
  joint_other p l c W w c7 e (inl i) h k =
      let a = old_ends i.0 i.1 in let b = hold_le P B T from in let win = i.0 in
      opens_other P B fP l c c7 (opens_as c (joint_old P B Q T p l (omega arith) (omega arith)) e) win.turn (omega arith) (omega arith)
  joint_other p l c W w c7 e (inr win) h k =
      let a = new_begins win in
      opens_other Q T fQ l c c7 (opens_as c (joint_new P B Q T p l (omega arith)) e) win.turn (omega arith) (omega arith)

pending_facts : (P : Plan) (B : ℕ) (Q : Plan) (T : ℕ) → Fit P → Fit Q → Q.error ≡ P.error → B ≤ T → Facts P B (pending Q T)
pending_facts P B Q T fP fQ e from = record {
  fit = fP;
  seven_is = joint_7_is P B Q T fP fQ from P.error refl e;
  seven_has = joint_7_has P B Q T fP fQ from P.error refl e;
  other = joint_other P B Q T fP fQ from P.error refl e;
  before = before;
  later = later;
  own = λ i k. inl (record { turn = i; begins = refl; long = refl }, k);
}
  where
    before : {p : ℕ} (i : Turn P p) (W w : ℕ) → cycle_begin P B i.cycles < hold_from P B T → OccursJoint P B Q T p W w → W < begin_of P B p i → W + w + 4 * P.error ≤ reach_of_turn P B p i
    before i W w k (inl win) lt = omega (arith, apart P B fP win.0.turn i (omega arith))
    before i W w k (inr win) lt = absurd (omega (arith, hold_le P B T from, hold_after P B T from i.cycles k, (rules P B fP i).ends, new_begins P B Q T fP fQ from P.error refl e win))

    later : {p : ℕ} (i : Turn P p) (W w : ℕ) → cycle_begin P B i.cycles < hold_from P B T → OccursJoint P B Q T p W w → begin_of P B p i < W → closes P B p i + 2 * P.error ≤ W
    later i W w k (inl win) lt = omega (arith, apart P B fP i win.0.turn (omega arith), early_le P B fP win.0.turn.flow win.0.turn.hop win.0.turn.flow_in win.0.turn.hop_in)
    later i W w k (inr win) lt = omega (arith, hold_le P B T from, hold_after P B T from i.cycles k, (rules P B fP i).ends, new_begins P B Q T fP fQ from P.error refl e win)

replaced_facts : (P : Plan) (B : ℕ) (O : Plan) (A : ℕ) → Fit P → Fit O → P.error ≡ O.error → A ≤ B → Facts P B (replaced O A)
replaced_facts P B O A fP fO e from = record {
  fit = fP;
  seven_is = joint_7_is O A P B fO fP from P.error (sym e) refl;
  seven_has = joint_7_has O A P B fO fP from P.error (sym e) refl;
  other = joint_other O A P B fO fP from P.error (sym e) refl;
  before = before;
  later = later;
  own = λ i k. inr (record { turn = i; begins = refl; long = refl });
}
  where
    before : {p : ℕ} (i : Turn P p) (W w : ℕ) → Unit {0} → OccursJoint O A P B p W w → W < begin_of P B p i → W + w + 4 * P.error ≤ reach_of_turn P B p i
    before i W w k (inl win) lt = omega (arith, hold_le O A B from, old_ends O A P B fO fP from P.error (sym e) refl win.0 win.1, early_ge i)
      where
        early_ge : {p : ℕ} (i : Turn P p) → P.error ≤ early_at P i.flow i.hop
        early_ge i = grind (arith, common_steps)
    before i W w k (inr win) lt = omega (arith, apart P B fP win.turn i (omega arith))

    later : {p : ℕ} (i : Turn P p) (W w : ℕ) → Unit {0} → OccursJoint O A P B p W w → begin_of P B p i < W → closes P B p i + 2 * P.error ≤ W
    later i W w k (inl win) lt = absurd (omega (arith, hold_le O A B from, old_ends O A P B fO fP from P.error (sym e) refl win.0 win.1))
    later i W w k (inr win) lt = omega (arith, apart P B fP i win.turn (omega arith), early_le P B fP win.turn.flow win.turn.hop win.turn.flow_in win.turn.hop_in)

pub facts : (P : Plan) (B : ℕ) (tr : Transition) → Sound P B tr → Facts P B tr
facts P B steady s = steady_facts P B s
facts P B (pending Q T) s = pending_facts P B Q T s.0 s.1 s.2 s.3
facts P B (replaced O A) s = replaced_facts P B O A s.0 s.1 s.2 s.3
