-- A list, its hold and the next list: what holds from a tick on, and for how long a gate stays open.
use Rattle.std.proofs.Common.{◌≡◌, ℕ, ◌+◌, ◌-◌, ◌<◌, ◌≤◌, min, Bool, true, false, List, Some, None, vec_items, Option, sym, refl, ap, ◌∙◌, subst, inl, inr, arith}
use Rattle.std.proofs.lemmas.Bool.Decides.{nat_tests}
use Rattle.std.proofs.lemmas.Bool.{cases_lt}
use Rattle.gates.specs.declared.entry.GateEntry.{GateEntry}
use Rattle.gates.specs.declared.span.Span.{Span}
use Rattle.gates.specs.declared.timetable.Rotation.{Rotation}
use Rattle.gates.specs.declared.timetable.Timetable.{Timetable}
use Rattle.gates.specs.Octets.{opens}
use Rattle.gates.specs.Lists.{total}
use Rattle.gates.specs.Lookup.{last_octet, list_octet, held_from, lists_octet, octets_with, octets, list_span, cut_to, lists_span, span_with, span_at, Stays, Counts, settled_with, next_from, SettlingKeeps}
use Rattle.gates.proofs.Leads.{Lead, counted, leading, lead_longer, lead_join, lead_alike}
use Rattle.gates.proofs.Rounds.{stays_from, list_stays}

module _ (es : List GateEntry) (C B : ℕ) (fs : List GateEntry) (D T : ℕ) where
  -- the three parts
  pub octet_after : (l : ℕ) → T ≤ l → lists_octet es C B fs D T l ≡ list_octet fs D T l
  unfolding lists_octet
  octet_after l le = grind (arith, nat_tests)

  pub octet_held : (l : ℕ) → held_from C B T ≤ l → l < T → lists_octet es C B fs D T l ≡ last_octet es
  unfolding lists_octet
  octet_held l le lt = grind (arith, nat_tests)

  pub octet_first : (l : ℕ) → l < held_from C B T → lists_octet es C B fs D T l ≡ list_octet es C B l
  unfolding lists_octet
  octet_first l lt = grind (arith, nat_tests)

  abbrev kept : ℕ → Span
  kept l = record { octet = last_octet es; ticks = T - l }

  pub span_after : (l : ℕ) → T ≤ l → lists_span es C B fs D T l ≡ list_span fs D T l
  unfolding lists_span
  span_after l le = grind (arith, nat_tests)

  pub span_held : (l : ℕ) → held_from C B T ≤ l → l < T → lists_span es C B fs D T l ≡ kept l
  unfolding lists_span
  span_held l le lt = grind (arith, nat_tests)

  pub span_first : (l : ℕ) → l < held_from C B T → lists_span es C B fs D T l ≡ cut_to (held_from C B T - l) (list_span es C B l)
  unfolding lists_span
  span_first l lt = grind (arith, nat_tests)

  pub lists_stays : total es ≡ C → 0 < C → total fs ≡ D → 0 < D → (l : ℕ) → Stays (lists_octet es C B fs D T) l (lists_span es C B fs D T l)
  lists_stays we se wf sf l = elim (cases_lt l T) [
    | inr h ↦ (let s = list_stays fs D wf sf T l in
        subst (Stays (lists_octet es C B fs D T) l) (sym (span_after l h)) (stays_from (lists_octet es C B fs D T) l (list_span fs D T l) s.lasts (λ i k. octet_after (l + i) (omega arith) ∙ s.on i k)))
    | inl h ↦ elim (cases_lt l (held_from C B T)) [
      | inr g ↦ subst (Stays (lists_octet es C B fs D T) l) (sym (span_held l g h))
          (stays_from (lists_octet es C B fs D T) l (kept l) (omega arith) (λ i k. octet_held (l + i) (omega arith) (omega arith)))
      | inl g ↦ (let s = list_stays es C we se B l in
          let some = s.lasts in
          subst (Stays (lists_octet es C B fs D T) l) (sym (span_first l g))
          (stays_from (lists_octet es C B fs D T) l (cut_to (held_from C B T - l) (list_span es C B l)) (omega arith) (λ i k. octet_first (l + i) (omega arith) ∙ s.on i (omega arith))))
    ]
  ]

  -- from tick l before the change on, for m ticks: k by the first list, then h of the hold
  module _ (l c m k : ℕ) (before : l < T) (turn : k ≡ min (held_from C B T - l) m) (r : ℕ) (first : Counts (list_octet es C B) l c k r) where
    abbrev test : ℕ → Bool
    test i = opens (lists_octet es C B fs D T (l + i)) c

    turned : Lead test k r
    turned = lead_alike (λ i. opens (list_octet es C B (l + i)) c) test k r (λ i g. sym (ap (λ o. opens o c) (octet_first (l + i) (omega arith)))) (leading (list_octet es C B) l c k r first)

    -- the first list shuts the gate
    pub first_shuts : r < k → Counts (lists_octet es C B fs D T) l c m r
    first_shuts short = counted (lists_octet es C B fs D T) l c m r (lead_longer test k r m turned short (omega arith))

    module _ (all : k ≤ r) (h : ℕ) (hold : h ≡ min (T - (l + k)) (m - k)) where
      by_hold : (i : ℕ) → i < h → test (k + i) ≡ opens (last_octet es) c
      by_hold i g = let e : l + (k + i) ≡ l + k + i = omega arith in ap (λ o. opens o c) (ap (lists_octet es C B fs D T) e ∙ octet_held (l + k + i) (omega arith) (omega arith))

      -- the hold shuts it
      pub hold_shuts : 0 < h → opens (last_octet es) c ≡ false → Counts (lists_octet es C B fs D T) l c m k
      hold_shuts some shut = counted (lists_octet es C B fs D T) l c m k
          (record {
            within = omega arith;
            holds = λ i g. turned.holds i (omega arith);
            stops = λ g. let e : k + 0 ≡ k = omega arith in sym (ap test e) ∙ by_hold 0 some ∙ shut;
          })

      -- neither does
      pub next_counts : (0 < h → opens (last_octet es) c ≡ true) → (n : ℕ) → Counts (list_octet fs D T) T c (m - k - h) n → Counts (lists_octet es C B fs D T) l c m (k + h + n)
      next_counts stays n last =
          let e : k + h + (m - k - h) ≡ m = omega arith in
          counted (lists_octet es C B fs D T) l c m (k + h + n)
          (subst (λ j. Lead test j (k + h + n)) e
          (lead_join test (k + h) (m - k - h) n
          (λ i g. elim (cases_lt i k) [
            | inl a ↦ turned.holds i (omega arith)
            | inr a ↦ (let b : k + (i - k) ≡ i = omega arith in sym (ap test b) ∙ by_hold (i - k) (omega arith) ∙ stays (omega arith))
          ])
          (lead_alike (λ i. opens (list_octet fs D T (T + i)) c) (λ i. test (k + h + i)) (m - k - h) n
          (λ i g. let a : l + (k + h + i) ≡ T + i = omega arith in sym (ap (λ o. opens o c) (ap (lists_octet es C B fs D T) a ∙ octet_after (T + i) (omega arith))))
          (leading (list_octet fs D T) T c (m - k - h) n last))))

  -- from the change on
  pub after_counts : (l c m r : ℕ) → T ≤ l → Counts (list_octet fs D T) l c m r → Counts (lists_octet es C B fs D T) l c m r
  after_counts l c m r le h = counted (lists_octet es C B fs D T) l c m r
      (lead_alike (λ i. opens (list_octet fs D T (l + i)) c) (λ i. opens (lists_octet es C B fs D T (l + i)) c) m r
      (λ i g. sym (ap (λ o. opens o c) (octet_after (l + i) (omega arith)))) (leading (list_octet fs D T) l c m r h))

with_stays : (a : Rotation) (o : Option Rotation) (l : ℕ) → Stays (octets_with a o) l (span_with a o l)
with_stays a None l = list_stays (vec_items a.list.entries) a.list.cycle a.list.whole a.list.positive a.base l
with_stays a (Some n) l =
    lists_stays (vec_items a.list.entries) a.list.cycle a.base (vec_items n.list.entries) n.list.cycle n.base a.list.whole a.list.positive n.list.whole n.list.positive l

-- what holds at a tick stays for the ticks of its span
pub timetable_stays : (t : Timetable) (l : ℕ) → Stays (octets t) l (span_at t l)
unfolding octets span_at
timetable_stays t l = with_stays t.current t.next l

settled_alike : (t : Timetable) (o : Option Rotation) (l : ℕ) → t.next ≡ o → next_from o ≤ l → octets (settled_with t o) l ≡ octets_with t.current o l
unfolding octets
settled_alike t None l is le = ap (λ (o : Option Rotation). octets_with t.current o l) is
settled_alike t (Some n) l is le =
    sym (octet_after (vec_items t.current.list.entries) t.current.list.cycle t.current.base (vec_items n.list.entries) n.list.cycle n.base l le)

pub settling_keeps : SettlingKeeps
unfolding octets
settling_keeps t l le = settled_alike t t.next l refl le
