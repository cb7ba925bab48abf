-- A gate list that goes round: what holds from a tick on, and for how long a gate stays open.
use Rattle.std.proofs.Common.{◌≡◌, ℕ, ◌+◌, ◌-◌, ◌%◌, ◌<◌, ◌≤◌, min, Bool, false, cond, List, [], ◌∷◌, sym, ap, ◌∙◌, subst, inl, inr, mod-lt, mod-eq_of_lt, arith}
use native.Mathlib.Nat.{mod-add-mod, add-mod_left}
use Rattle.std.proofs.lemmas.Bool.Decides.{nat_tests}
use Rattle.std.proofs.lemmas.Bool.{cases_lt, cases_Bool, lt-ltb, le-ltb}
use Rattle.gates.specs.declared.entry.GateEntry.{GateEntry}
use Rattle.gates.specs.declared.span.Span.{Span}
use Rattle.gates.specs.Octets.{opens}
use Rattle.gates.specs.Lists.{total, yields}
use Rattle.gates.specs.Lookup.{list_octet, round_octet, entry_span, list_span, entry_open, Stays, Counts}
use Rattle.gates.proofs.Entries.{yields_head, yields_tail}
use Rattle.gates.proofs.Leads.{Lead, counted, leading, lead_cut, lead_whole, lead_join, lead_alike}

-- the entry in which a tick falls
pub record Falls (es : List GateEntry) (x : ℕ) (s : Span) : Type 0 where
  pub lasts : 0 < s.ticks
  pub within : x + s.ticks ≤ total es
  pub stays : (i : ℕ) → i < s.ticks → yields es (x + i) ≡ s.octet

falls : (es : List GateEntry) (x : ℕ) → x < total es → Falls es x (entry_span es x)
falls [] x lt = absurd (omega arith)
falls (e ∷ es) x lt = elim (cases_lt x e.ticks) [
  | inl h ↦ (let is = ap (λ b. cond b (record { octet = e.octet; ticks = e.ticks - x }) (entry_span es (x - e.ticks))) (lt-ltb x e.ticks h) in
      subst (Falls (e ∷ es) x) (sym is) (record { lasts = omega arith; within = omega arith; stays = λ i l. yields_head e es (x + i) (omega arith) }))
  | inr h ↦ (let is = ap (λ b. cond b (record { octet = e.octet; ticks = e.ticks - x }) (entry_span es (x - e.ticks))) (le-ltb x e.ticks h) in
      let f = falls es (x - e.ticks) (omega arith) in
      let w = f.within in
      subst (Falls (e ∷ es) x) (sym is) (record {
        lasts = f.lasts;
        within = omega arith;
        stays = λ i l. let n : x + i - e.ticks ≡ x - e.ticks + i = omega arith in
            yields_tail e es (x + i) (omega arith) ∙ ap (yields es) n ∙ f.stays i l;
      }))
]

-- the phase of a later tick
phase : (C B l i : ℕ) → B ≤ l → ((l - B) % C + i) % C ≡ (l + i - B) % C
phase C B l i le = let e : l - B + i ≡ l + i - B = omega arith in mod-add-mod (l - B) C i ∙ ap (λ n. n % C) e

pub octet_round : (es : List GateEntry) (C B l i : ℕ) → B ≤ l → list_octet es C B (l + i) ≡ yields es (((l - B) % C + i) % C)
unfolding list_octet
octet_round es C B l i le = grind (arith, nat_tests, phase C B l i)

pub octet_before : (es : List GateEntry) (C B l : ℕ) → l < B → list_octet es C B l ≡ 0x00
unfolding list_octet
octet_before es C B l lt = grind (arith, nat_tests)

pub stays_from : (os : ℕ → ℕ) (l : ℕ) (s : Span) → 0 < s.ticks → ((i : ℕ) → i < s.ticks → os (l + i) ≡ s.octet) → Stays os l s
stays_from os l s some on = let e : l + 0 ≡ l = omega arith in record { lasts = some; here = sym (ap os e) ∙ on 0 some; on = on }

pub span_round : (es : List GateEntry) (C B l : ℕ) → B ≤ l → list_span es C B l ≡ entry_span es ((l - B) % C)
unfolding list_span
span_round es C B l le = grind (arith, nat_tests)

pub span_before : (es : List GateEntry) (C B l : ℕ) → l < B → list_span es C B l ≡ record { octet = 0x00; ticks = B - l }
unfolding list_span
span_before es C B l lt = grind (arith, nat_tests)

pub list_stays : (es : List GateEntry) (C : ℕ) → total es ≡ C → 0 < C → (B l : ℕ) → Stays (list_octet es C B) l (list_span es C B l)
list_stays es C whole some B l = elim (cases_lt l B) [
  | inl h ↦ subst (Stays (list_octet es C B) l) (sym (span_before es C B l h))
      (stays_from (list_octet es C B) l (record { octet = 0x00; ticks = B - l }) (omega arith) (λ i k. octet_before es C B (l + i) (omega arith)))
  | inr h ↦ (let f = falls es ((l - B) % C) (omega (arith, mod-lt (l - B) some)) in
      let w = f.within in
      subst (Stays (list_octet es C B) l) (sym (span_round es C B l h))
      (stays_from (list_octet es C B) l (entry_span es ((l - B) % C)) f.lasts
      (λ i k. let lt : (l - B) % C + i < C = omega arith in octet_round es C B l i h ∙ ap (yields es) (mod-eq_of_lt lt) ∙ f.stays i k)))
]

-- one walk over the entries
open_walk : (es : List GateEntry) (x c : ℕ) → x ≤ total es → Lead (λ i. opens (yields es (x + i)) c) (total es - x) (entry_open es x c)
open_walk [] x c le = record { within = omega arith; holds = λ i l. absurd (omega arith); stops = λ l. absurd (omega arith) }
open_walk (e ∷ es) x c le = elim (cases_lt x e.ticks) [
  | inl h ↦ elim (cases_Bool (opens e.octet c)) [
    | inl y ↦ (let r : entry_open (e ∷ es) x c ≡ e.ticks - x + entry_open es 0 c =
        (λ i. cond (lt-ltb x e.ticks h i) (cond (y i) (e.ticks - x + entry_open es 0 c) 0) (entry_open es (x - e.ticks) c)) in
        let n : e.ticks - x + (total es - 0) ≡ total (e ∷ es) - x = omega arith in
        let q : ℕ → Bool = λ i. opens (yields (e ∷ es) (x + i)) c in
        subst (λ m. Lead q m (entry_open (e ∷ es) x c)) n (subst (Lead q (e.ticks - x + (total es - 0))) (sym r)
        (lead_join q (e.ticks - x) (total es - 0) (entry_open es 0 c)
        (λ i l. ap (λ o. opens o c) (yields_head e es (x + i) (omega arith)) ∙ y)
        (lead_alike (λ i. opens (yields es (0 + i)) c) (λ i. q (e.ticks - x + i)) (total es - 0) (entry_open es 0 c)
        (λ i l. let m : x + (e.ticks - x + i) - e.ticks ≡ 0 + i = omega arith in
        sym (ap (λ o. opens o c) (yields_tail e es (x + (e.ticks - x + i)) (omega arith) ∙ ap (yields es) m)))
        (open_walk es 0 c (omega arith))))))
    | inr y ↦ (let r : entry_open (e ∷ es) x c ≡ 0 =
        (λ i. cond (lt-ltb x e.ticks h i) (cond (y i) (e.ticks - x + entry_open es 0 c) 0) (entry_open es (x - e.ticks) c)) in
        let q : ℕ → Bool = λ i. opens (yields (e ∷ es) (x + i)) c in
        subst (Lead q (total (e ∷ es) - x)) (sym r)
        (record { within = omega arith; holds = λ i l. absurd (omega arith); stops = λ l. ap (λ o. opens o c) (yields_head e es (x + 0) (omega arith)) ∙ y }))
  ]
  | inr h ↦ (let r : entry_open (e ∷ es) x c ≡ entry_open es (x - e.ticks) c =
      (λ i. cond (le-ltb x e.ticks h i) (cond (opens e.octet c) (e.ticks - x + entry_open es 0 c) 0) (entry_open es (x - e.ticks) c)) in
      let n : total es - (x - e.ticks) ≡ total (e ∷ es) - x = omega arith in
      let q : ℕ → Bool = λ i. opens (yields (e ∷ es) (x + i)) c in
      subst (λ m. Lead q m (entry_open (e ∷ es) x c)) n (subst (Lead q (total es - (x - e.ticks))) (sym r)
      (lead_alike (λ i. opens (yields es (x - e.ticks + i)) c) q (total es - (x - e.ticks)) (entry_open es (x - e.ticks) c)
      (λ i l. let m : x + i - e.ticks ≡ x - e.ticks + i = omega arith in sym (ap (λ o. opens o c) (yields_tail e es (x + i) (omega arith) ∙ ap (yields es) m)))
      (open_walk es (x - e.ticks) c (omega arith)))))
]

-- the open ticks of a walk are no more than the entries last
pub open_most : (es : List GateEntry) (x c : ℕ) → entry_open es x c ≤ total es
open_most [] x c = omega arith
open_most (e ∷ es) x c = grind (arith, nat_tests, open_most es 0 c, open_most es (x - e.ticks) c)

-- from tick x of the entries on, going round, for m ticks
module _ (es : List GateEntry) (C : ℕ) (whole : total es ≡ C) (x c m : ℕ) (lt : x < C) where
  abbrev turning : ℕ → Bool
  turning i = opens (round_octet es C (x + i)) c

  to_end : Lead turning (C - x) (entry_open es x c)
  to_end =
      let n : total es - x ≡ C - x = omega arith in
      lead_alike (λ i. opens (yields es (x + i)) c) turning (C - x) (entry_open es x c)
      (λ i l. let k : x + i < C = omega arith in sym (ap (λ n. opens (yields es n) c) (mod-eq_of_lt k)))
      (subst (λ k. Lead (λ i. opens (yields es (x + i)) c) k (entry_open es x c)) n (open_walk es x c (omega arith)))

  -- a closed entry comes before the end
  pub round_short : (r s : ℕ) → r ≡ entry_open es x c → r < C - x → s ≡ min r m → Counts (round_octet es C) x c m s
  round_short r s is short cut = counted (round_octet es C) x c m s (subst (Lead turning m) (sym cut) (lead_cut turning (C - x) r m (subst (Lead turning (C - x)) (sym is) to_end) short))

  -- a whole round is open, so the gate never shuts
  pub round_open : (r : ℕ) → r ≡ entry_open es 0 c → r ≡ C → Counts (round_octet es C) x c m m
  round_open r is all =
      counted (round_octet es C) x c m m
      (lead_whole turning m
      (λ i l. let y = (x + i) % C in
      let e : 0 + y ≡ y = omega arith in
      sym (ap (λ n. opens (yields es n) c) e) ∙ (open_walk es 0 c (omega arith)).holds y (omega (arith, mod-lt (x + i) {m = C} (omega arith)))))

  -- a closed entry comes after the end
  pub round_on : (o r s : ℕ) → o ≡ entry_open es x c → C - x ≤ o → r ≡ entry_open es 0 c → (r ≡ C → ⊥) → s ≡ min (C - x + r) m → Counts (round_octet es C) x c m s
  round_on o r s whole_rest on is some cut =
      let e = to_end.within in
      let n : total es - 0 ≡ C = omega arith in
      let w = open_most es 0 c in
      counted (round_octet es C) x c m s
      (subst (Lead turning m) (sym cut)
      (lead_cut turning (C - x + C) (C - x + r) m
      (lead_join turning (C - x) C r (λ i l. to_end.holds i (omega arith))
      (lead_alike (λ i. opens (yields es (0 + i)) c) (λ i. turning (C - x + i)) C r
      (λ i l. let a : x + (C - x + i) ≡ C + i = omega arith in
      let b : i ≡ 0 + i = omega arith in
      sym (ap (λ n. opens (yields es n) c) (ap (λ n. n % C) a ∙ add-mod_left C i ∙ mod-eq_of_lt l ∙ b)))
      (subst (λ k. Lead (λ i. opens (yields es (0 + i)) c) k r) n (subst (Lead (λ i. opens (yields es (0 + i)) c) (total es - 0)) (sym is) (open_walk es 0 c (omega arith))))))
      (omega arith)))

-- a list with its base
module _ (es : List GateEntry) (C B l c m : ℕ) where
  shut : opens 0x00 c ≡ false
  shut = grind (arith, nat_tests)

  pub list_shut : l < B → Counts (list_octet es C B) l c m 0
  list_shut lt = counted (list_octet es C B) l c m 0
      (record { within = omega arith; holds = λ i k. absurd (omega arith); stops = λ k. ap (λ o. opens o c) (octet_before es C B (l + 0) (omega arith)) ∙ shut })

  pub list_turns : (r : ℕ) → B ≤ l → Counts (round_octet es C) ((l - B) % C) c m r → Counts (list_octet es C B) l c m r
  list_turns r le h = counted (list_octet es C B) l c m r
      (lead_alike (λ i. opens (round_octet es C ((l - B) % C + i)) c) (λ i. opens (list_octet es C B (l + i)) c) m r
      (λ i k. sym (ap (λ o. opens o c) (octet_round es C B l i le))) (leading (round_octet es C) ((l - B) % C) c m r h))
