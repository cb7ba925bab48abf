-- Windows in true time: they stand apart, and the gates follow them.
use Rattle.std.proofs.lemmas.Grind.{common_steps}
use Rattle.std.proofs.Common.{◌≡◌, ℕ, zero, suc, ◌+◌, ◌-◌, ◌*◌, ◌/◌, ◌%◌, ◌^◌, ◌<◌, ◌≤◌, Bool, true, false, ◌&&◌, eqb, ltb, leb, ◌⊎◌, Decides, sym, refl, ap, ◌∙◌, subst, inl, inr, mul-le-mul_right, suc-mul, div-add-mod', arith}
use lib.Arith.{digits_mod}
use Rattle.std.proofs.lemmas.Bool.{cases_order, and_parts, and_from, leb-true, ltb-true, eqb-true, le-leb, lt-leb, lt-ltb, eq-eqb, both_ways, cases_lt, true≢false, false≢true}
use Rattle.std.proofs.lemmas.Bool.Decides.{Decides-below_or, Decides-below_and}
use Rattle.schedule.specs.Plan.{Plan, flow_count, hop_count, port_at, offset_at, end_at, wire_of, early_at}
use Rattle.schedule.specs.Rules.{KeepsRules, After, Apart}
use Rattle.gates.specs.Octets.{some, inside, ahead, in_window, in_guard, octet_by, octet_at, opens}
use Rattle.gates.specs.Timetable.{each, cyclic_octet}
use Rattle.network.specs.Windows.{Turn, cycle_begin, begin_of}
use Rattle.network.specs.Lawful.{Fit}

-- whole cycles
pub turns : (m n C : ℕ) → m < n → m * C + C ≤ n * C
turns m n C h = rw (← suc-mul m C) (mul-le-mul_right C h)

some_tells : (n : ℕ) (q : ℕ → Bool) → Decides (some n q) ((k : ℕ) × (k < n) × (q k ≡ true))
some_tells n q = Decides-below_or q (λ k. q k ≡ true) (λ n. some n q) (λ k. ((λ e. e), (λ e. e))) refl (λ _. refl) n

pub each_tells : (n : ℕ) (q : ℕ → Bool) → Decides (each n q) ((k : ℕ) → k < n → q k ≡ true)
each_tells n q = Decides-below_and q (λ k. q k ≡ true) (λ n. each n q) (λ k. ((λ e. e), (λ e. e))) refl (λ _. refl) n

module _ (P : Plan) (q : ℕ → ℕ → Bool) where
  -- some hop of the plan has q, and conversely
  pub some_hop_is : some (flow_count P) (λ f. some (hop_count P f) (q f)) ≡ true → (f : ℕ) × (h : ℕ) × (f < flow_count P) × (h < hop_count P f) × (q f h ≡ true)
  some_hop_is e =
      let a = (some_tells (flow_count P) (λ f. some (hop_count P f) (q f))).0 e in
      let b = (some_tells (hop_count P a.0) (q a.0)).0 a.2 in
      (a.0, b.0, a.1, b.1, b.2)

  pub some_hop_has : (f h : ℕ) → f < flow_count P → h < hop_count P f → q f h ≡ true → some (flow_count P) (λ f. some (hop_count P f) (q f)) ≡ true
  some_hop_has f h fi hi e = (some_tells (flow_count P) (λ f. some (hop_count P f) (q f))).1 (f, fi, (some_tells (hop_count P f) (q f)).1 (h, hi, e))

-- what an octet of the windows opens: class 7 alone in a window, the others outside of windows and guard bands
pub octet_opens : (w g : Bool) (c : ℕ) → opens (octet_by w g) c ≡ true → ((w ≡ true) × (c ≡ 7)) ⊎ ((w ≡ false) × (g ≡ false) × (c < 7))
octet_opens w g c e = by (and_parts (ltb c 8) _ e).1 (ltb-true c 8 (and_parts (ltb c 8) _ e).0)
  where
    seven : (c : ℕ) → c < 8 → eqb (0x80 / 2 ^ c % 2) 1 ≡ true → c ≡ 7
    seven zero h e = absurd (false≢true e)
    seven (suc zero) h e = absurd (false≢true e)
    seven (suc (suc zero)) h e = absurd (false≢true e)
    seven (suc (suc (suc zero))) h e = absurd (false≢true e)
    seven (suc (suc (suc (suc zero)))) h e = absurd (false≢true e)
    seven (suc (suc (suc (suc (suc zero))))) h e = absurd (false≢true e)
    seven (suc (suc (suc (suc (suc (suc zero)))))) h e = absurd (false≢true e)
    seven (suc (suc (suc (suc (suc (suc (suc n))))))) h e = omega arith

    none : (c : ℕ) → c < 8 → eqb (0x00 / 2 ^ c % 2) 1 ≡ true → ⊥
    none zero h e = false≢true e
    none (suc zero) h e = false≢true e
    none (suc (suc zero)) h e = false≢true e
    none (suc (suc (suc zero))) h e = false≢true e
    none (suc (suc (suc (suc zero)))) h e = false≢true e
    none (suc (suc (suc (suc (suc zero))))) h e = false≢true e
    none (suc (suc (suc (suc (suc (suc zero)))))) h e = false≢true e
    none (suc (suc (suc (suc (suc (suc (suc zero))))))) h e = false≢true e
    none (suc (suc (suc (suc (suc (suc (suc (suc n)))))))) h e = omega arith

    low : (c : ℕ) → c < 8 → eqb (0x7F / 2 ^ c % 2) 1 ≡ true → c < 7
    low c h e = elim (cases_lt c 7) [ inl l ↦ l | inr l ↦ (let q : c ≡ 7 = omega arith in absurd (false≢true (subst (λ d. eqb (0x7F / 2 ^ d % 2) 1 ≡ true) q e))) ]

    go : (w g : Bool) (c : ℕ) → eqb (octet_by w g / 2 ^ c % 2) 1 ≡ true → c < 8 → ((w ≡ true) × (c ≡ 7)) ⊎ ((w ≡ false) × (g ≡ false) × (c < 7))
    go true g c e h = inl (refl, seven c h e)
    go false true c e h = absurd (none c h e)
    go false false c e h = inr (refl, refl, low c h e)

    by : eqb (octet_by w g / 2 ^ c % 2) 1 ≡ true → c < 8 → ((w ≡ true) × (c ≡ 7)) ⊎ ((w ≡ false) × (g ≡ false) × (c < 7))
    by e h = go w g c e h

-- no gate is open in the octet 0
pub none_open : (c : ℕ) → opens 0x00 c ≡ true → ⊥
none_open c e = elim (octet_opens false true c e) [ inl w ↦ true≢false (sym w.0) | inr w ↦ true≢false w.1 ]

-- two windows of one port of a fit plan: the later is reached after the earlier has ended
abbrev Before : Plan → ℕ → ℕ → ℕ → ℕ → Type 0
Before P f h g k = (offset_at P f h < offset_at P g k) × After P g k f h

module _ (P : Plan) (fit : Fit P) where
  ordered : (f h g k : ℕ) → Apart P f h g k → Before P f h g k ⊎ Before P g k f h
  ordered f h g k a = elim (cases_order (offset_at P f h) (offset_at P g k)) [
    | inl e ↦ absurd (a.differ e)
    | inr (inl l) ↦ inl (l, a.below l)
    | inr (inr l) ↦ inr (l, a.above l)
  ]

  swap : {A B : Type 0} → A ⊎ B → B ⊎ A
  swap (inl a) = inr a
  swap (inr b) = inl b

  two_windows : (f h g k : ℕ) → f < flow_count P → h < hop_count P f → g < flow_count P → k < hop_count P g → port_at P f h ≡ port_at P g k
      → ((f ≡ g) × (h ≡ k)) ⊎ (Before P f h g k ⊎ Before P g k f h)
  two_windows f h g k fi hi gi ki same = elim (cases_order f g) [
    | inl e ↦ (let ki' : k < hop_count P f = subst (λ x. k < hop_count P x) (sym e) ki in
        inl (e, fit.once f h k (fi, hi) (fi, ki') (same ∙ ap (λ x. port_at P x k) (sym e))))
    | inr (inl l) ↦ inr (swap (ordered g k f h ((fit.good g gi k ki).apart f l h hi same)))
    | inr (inr l) ↦ inr (ordered f h g k ((fit.good f fi h hi).apart g l k ki (sym same)))
  ]

-- the earliest reach of a turn, and the clock error more; and the tick at which its window has ended
abbrev pub reach_of_turn : (P : Plan) → ℕ → (p : ℕ) → Turn P p → ℕ
reach_of_turn P B p i = cycle_begin P B i.cycles + early_at P i.flow i.hop

abbrev pub closes : (P : Plan) → ℕ → (p : ℕ) → Turn P p → ℕ
closes P B p i = begin_of P B p i + wire_of P i.flow + 2 * P.error

module _ (P : Plan) (B : ℕ) (fit : Fit P) where
  pub rules : {p : ℕ} (i : Turn P p) → KeepsRules P i.flow i.hop
  rules i = fit.good i.flow i.flow_in i.hop i.hop_in

  -- an earlier window has closed, and the guard band more, before the earliest reach of a later one
  pub apart : {p : ℕ} (i j : Turn P p) → begin_of P B p i < begin_of P B p j → closes P B p i + 2 * P.error ≤ reach_of_turn P B p j
  apart i j lt =
      let a = rules i in let b = rules j in
      elim (cases_order i.cycles j.cycles) [
        | inl e ↦
            let t : i.cycles * P.cycle ≡ j.cycles * P.cycle = ap (λ n. n * P.cycle) e in
            elim (two_windows P fit i.flow i.hop j.flow j.hop i.flow_in i.hop_in j.flow_in j.hop_in (i.at ∙ sym j.at)) [
              | inl s ↦ (let o : offset_at P i.flow i.hop ≡ offset_at P j.flow j.hop = (λ x. offset_at P (s.0 x) (s.1 x)) in absurd (omega arith))
              | inr (inl b) ↦ omega arith
              | inr (inr b) ↦ absurd (omega arith)
            ]
        | inr (inl l) ↦ omega (arith, turns i.cycles j.cycles P.cycle l, a.ends)
        | inr (inr l) ↦ absurd (omega (arith, turns j.cycles i.cycles P.cycle l, b.ends))
      ]

  pub early_le : (f h : ℕ) → f < flow_count P → h < hop_count P f → early_at P f h ≤ offset_at P f h
  early_le f zero fi hi = omega (arith, (fit.good f fi 0 hi).reached)
  early_le f (suc h) fi hi = omega (arith, (fit.good f fi (suc h) hi).reached)

  -- windows of one port that begin together are one
  pub one_window : {p : ℕ} (i j : Turn P p) → begin_of P B p i ≡ begin_of P B p j → i.flow ≡ j.flow
  one_window i j same = grind (arith, common_steps, rules, two_windows, fit, turns)

  -- the place in the cycle of a tick in a window, or in the guard band before it
  phase : {p : ℕ} (i : Turn P p) (l : ℕ) → begin_of P B p i ≤ l + 2 * P.error → l < closes P B p i
      → (B ≤ l) × (cycle_begin P B i.cycles + (l - B) % P.cycle ≡ l)
  phase i l h k =
      let a = (rules i).guarded in
      let b = (rules i).ends in
      let y = l - B - i.cycles * P.cycle in
      let e : l - B ≡ i.cycles * P.cycle + y = omega arith in
      let m : (l - B) % P.cycle ≡ y = ap (λ z. z % P.cycle) e ∙ digits_mod i.cycles (omega arith) in
      (omega arith, omega arith)

  pub octet_on : (p l : ℕ) → B ≤ l → cyclic_octet P B p l ≡ octet_at P p ((l - B) % P.cycle)
  unfolding cyclic_octet
  octet_on p l h = rw (le-leb B l h) refl

  octet_off : (p l : ℕ) → l < B → cyclic_octet P B p l ≡ 0x00
  unfolding cyclic_octet
  octet_off p l h = rw (lt-leb B l h) refl

  opens_parts : (p l c : ℕ) → opens (cyclic_octet P B p l) c ≡ true → (B ≤ l) × (opens (octet_at P p ((l - B) % P.cycle)) c ≡ true)
  opens_parts p l c e = elim (cases_lt l B) [
    | inl h ↦ absurd (none_open c (ap (λ o. opens o c) (sym (octet_off p l h)) ∙ e))
    | inr h ↦ (h, ap (λ o. opens o c) (sym (octet_on p l h)) ∙ e)
  ]

  pub gate_is : (p x c : ℕ) → opens (octet_at P p x) c ≡ true → ((in_window P p x ≡ true) × (c ≡ 7)) ⊎ ((in_window P p x ≡ false) × (in_guard P p x ≡ false) × (c < 7))
  unfolding octet_at
  gate_is p x c e = octet_opens (in_window P p x) (in_guard P p x) c e

  -- the gate of class 7 is open exactly in the windows
  pub opens_7_is : (p l : ℕ) → opens (cyclic_octet P B p l) 7 ≡ true → (i : Turn P p) × (begin_of P B p i ≤ l) × (l < closes P B p i)
  opens_7_is p l e =
      let x = (l - B) % P.cycle in
      let (b, g) = opens_parts p l 7 e in
      let d = div-add-mod' (l - B) P.cycle in
      elim (gate_is p x 7 g) [
        | inl w ↦
            let (f, h, fi, hi, q) = some_hop_is P (inside P p x) w.0 in
            let r = and_parts (eqb (port_at P f h) p) (leb (offset_at P f h) x && ltb x (end_at P f h)) q in
            let c = and_parts (leb (offset_at P f h) x) (ltb x (end_at P f h)) r.1 in
            let c0 = leb-true (offset_at P f h) x c.0 in
            let c1 = ltb-true x (end_at P f h) c.1 in
            (record { flow = f; hop = h; cycles = (l - B) / P.cycle; flow_in = fi; hop_in = hi; at = eqb-true (port_at P f h) p r.0 }, omega arith, omega arith)
        | inr w ↦ absurd (omega (arith, w.2))
      ]

  in_window_has : {p : ℕ} (x : ℕ) (i : Turn P p) → offset_at P i.flow i.hop ≤ x → x < end_at P i.flow i.hop → in_window P p x ≡ true
  in_window_has {p} x i h k = some_hop_has P (inside P p x) i.flow i.hop i.flow_in i.hop_in
      (and_from (eqb (port_at P i.flow i.hop) p) (leb (offset_at P i.flow i.hop) x && ltb x (end_at P i.flow i.hop)) (eq-eqb (port_at P i.flow i.hop) p i.at)
      (and_from (leb (offset_at P i.flow i.hop) x) (ltb x (end_at P i.flow i.hop)) (le-leb (offset_at P i.flow i.hop) x h) (lt-ltb x (end_at P i.flow i.hop) k)))

  in_guard_has : {p : ℕ} (x : ℕ) (i : Turn P p) → x < offset_at P i.flow i.hop → offset_at P i.flow i.hop ≤ x + 2 * P.error → in_guard P p x ≡ true
  in_guard_has {p} x i h k = some_hop_has P (ahead P p x) i.flow i.hop i.flow_in i.hop_in
      (and_from (eqb (port_at P i.flow i.hop) p) (ltb x (offset_at P i.flow i.hop) && leb (offset_at P i.flow i.hop) (x + 2 * P.error)) (eq-eqb (port_at P i.flow i.hop) p i.at)
      (and_from (ltb x (offset_at P i.flow i.hop)) (leb (offset_at P i.flow i.hop) (x + 2 * P.error)) (lt-ltb x (offset_at P i.flow i.hop) h) (le-leb (offset_at P i.flow i.hop) (x + 2 * P.error) k)))

  seven_in_window : (p x : ℕ) → in_window P p x ≡ true → opens (octet_at P p x) 7 ≡ true
  unfolding octet_at
  seven_in_window p x e = ap (λ w. opens (octet_by w (in_guard P p x)) 7) e

  pub opens_7_has : {p : ℕ} (l : ℕ) (i : Turn P p) → begin_of P B p i ≤ l → l < closes P B p i → opens (cyclic_octet P B p l) 7 ≡ true
  opens_7_has {p} l i h k =
      let (b, e) = phase i l (omega arith) k in
      ap (λ o. opens o 7) (octet_on p l b) ∙ seven_in_window p ((l - B) % P.cycle) (in_window_has ((l - B) % P.cycle) i (omega arith) (omega arith))

  -- that of another class only outside of them, and of the guard bands before them
  pub opens_other : {p : ℕ} (l c : ℕ) → c < 7 → opens (cyclic_octet P B p l) c ≡ true → (i : Turn P p) → begin_of P B p i ≤ l + 2 * P.error → l < closes P B p i → ⊥
  opens_other {p} l c c7 e i h k =
      let (b, ph) = phase i l h k in
      let x = (l - B) % P.cycle in
      elim (gate_is p x c (opens_parts p l c e).1) [
        | inl w ↦ omega (arith, w.1)
        | inr w ↦ elim (cases_lt x (offset_at P i.flow i.hop)) [
          | inl lt ↦ both_ways (in_guard P p x) w.1 (in_guard_has x i lt (omega arith))
          | inr ge ↦ both_ways (in_window P p x) w.0 (in_window_has x i ge (omega arith))
        ]
      ]
