-- For how many numbers in a row a test holds.
use Rattle.std.proofs.Common.{◌≡◌, ℕ, zero, suc, ◌+◌, ◌-◌, ◌<◌, ◌≤◌, min, Bool, true, false, cond, eqb, sym, refl, ap, ◌∙◌, subst, inl, inr, arith}
use Rattle.std.proofs.lemmas.Bool.Decides.{nat_tests}
use Rattle.std.proofs.lemmas.Bool.{cases_lt, cases_Bool, both_ways}
use Rattle.gates.specs.Timetable.{each}
use Rattle.gates.specs.Octets.{opens}
use Rattle.gates.specs.Lookup.{lead, Counts}

-- of n numbers the test holds of the first r, and not of the next if there is one
pub record Lead (q : ℕ → Bool) (n r : ℕ) : Type 0 where
  pub within : r ≤ n
  pub holds : (i : ℕ) → i < r → q i ≡ true
  pub stops : r < n → q r ≡ false

each_false : (q : ℕ → Bool) (n r : ℕ) → r < n → q r ≡ false → each n q ≡ false
each_false q zero r lt f = grind arith
each_false q (suc n) r lt f = grind (arith, nat_tests, each_false q n r)

each_true : (q : ℕ → Bool) (n : ℕ) → ((i : ℕ) → i < n → q i ≡ true) → each n q ≡ true
each_true q zero h = refl
each_true q (suc n) h = grind (arith, nat_tests, h n, each_true q n (λ i l. h i (omega arith)))

lead_is : (q : ℕ → Bool) (n r : ℕ) → Lead q n r → r ≡ lead n q
lead_is q zero r h = let w = h.within in omega arith
lead_is q (suc n) r h = elim (cases_lt n r) [
  | inl lt ↦ (let w = h.within in
      let e : r ≡ suc n = omega arith in
      e ∙ sym (ap (λ b. cond b (suc n) (lead n q)) (each_true q (suc n) (λ i l. h.holds i (omega arith)))))
  | inr le ↦ (lead_is q n r (record { within = le; holds = h.holds; stops = λ l. h.stops (omega arith) })
      ∙ sym (ap (λ b. cond b (suc n) (lead n q)) (each_false q (suc n) r (omega arith) (h.stops (omega arith)))))
]

each_holds : (q : ℕ → Bool) (n : ℕ) → each n q ≡ true → (i : ℕ) → i < n → q i ≡ true
each_holds q n e i lt = grind (arith, nat_tests, each_false q n i)

lead_of : (q : ℕ → Bool) (n : ℕ) → Lead q n (lead n q)
lead_of q zero = record { within = omega arith; holds = λ i l. absurd (omega arith); stops = λ l. absurd (omega arith) }
lead_of q (suc n) = elim (cases_Bool (each (suc n) q)) [
  | inl t ↦ (let e = ap (λ b. cond b (suc n) (lead n q)) t in
      subst (Lead q (suc n)) (sym e) (record { within = omega arith; holds = each_holds q (suc n) t; stops = λ l. absurd (omega arith) }))
  | inr f ↦ (let e = ap (λ b. cond b (suc n) (lead n q)) f in
      let h = lead_of q n in
      subst (Lead q (suc n)) (sym e) (record {
        within = omega (arith, h.within);
        holds = h.holds;
        stops = λ l. elim (cases_lt (lead n q) n) [
          | inl k ↦ h.stops k
          | inr k ↦ elim (cases_Bool (q (lead n q))) [
            | inr y ↦ y
            | inl y ↦ absurd (both_ways (each (suc n) q) f (each_true q (suc n) (λ i m. elim (cases_lt i (lead n q)) [
              | inl o ↦ h.holds i o
              | inr o ↦ (let s : lead n q ≡ i = omega arith in sym (ap q s) ∙ y)
            ])))
          ]
        ];
      }))
]

-- the count is all that were asked exactly where the test holds of each
lead_all : (q : ℕ → Bool) (n r : ℕ) → Lead q n r → eqb r n ≡ each n q
lead_all q n r h = grind (arith, nat_tests, each_true q n, each_false q n r)

-- a count that has stopped is the count of any longer asking, and cut to what is asked of any
pub lead_longer : (q : ℕ → Bool) (k r n : ℕ) → Lead q k r → r < k → k ≤ n → Lead q n r
lead_longer q k r n h lt le = record { within = omega arith; holds = h.holds; stops = λ l. h.stops lt }

pub lead_cut : (q : ℕ → Bool) (k r n : ℕ) → Lead q k r → r < k → Lead q n (min r n)
lead_cut q k r n h lt = grind (arith, h.holds)

pub lead_whole : (q : ℕ → Bool) (n : ℕ) → ((i : ℕ) → i < n → q i ≡ true) → Lead q n n
lead_whole q n h = record { within = omega arith; holds = h; stops = λ l. absurd (omega arith) }

-- a stretch on which it holds throughout, and what comes after it
pub lead_join : (q : ℕ → Bool) (k n r : ℕ) → ((i : ℕ) → i < k → q i ≡ true) → Lead (λ i. q (k + i)) n r → Lead q (k + n) (k + r)
lead_join q k n r all h = record {
  within = omega (arith, h.within);
  holds = λ i l. elim (cases_lt i k) [
    | inl m ↦ all i m
    | inr m ↦ (let e : k + (i - k) ≡ i = omega arith in sym (ap q e) ∙ h.holds (i - k) (omega arith))
  ];
  stops = λ l. h.stops (omega arith);
}

-- a test that agrees
pub lead_alike : (p q : ℕ → Bool) (n r : ℕ) → ((i : ℕ) → i < n → p i ≡ q i) → Lead p n r → Lead q n r
lead_alike p q n r same h =
    let w = h.within in
    record { within = w; holds = λ i l. sym (same i (omega arith)) ∙ h.holds i l; stops = λ l. sym (same r l) ∙ h.stops l }

-- the count of open ticks by a port's octets
pub counted : (os : ℕ → ℕ) (l c n r : ℕ) → Lead (λ i. opens (os (l + i)) c) n r → Counts os l c n r
counted os l c n r h = record { count = lead_is (λ i. opens (os (l + i)) c) n r h; all = lead_all (λ i. opens (os (l + i)) c) n r h }

pub leading : (os : ℕ → ℕ) (l c n r : ℕ) → Counts os l c n r → Lead (λ i. opens (os (l + i)) c) n r
leading os l c n r h = subst (Lead (λ i. opens (os (l + i)) c) n) (sym h.count) (lead_of (λ i. opens (os (l + i)) c) n)
