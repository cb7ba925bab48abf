-- The promises of two networks newly started, from the guarantee and from what the tables show.
use Rattle.std.proofs.Common.{arith}
use Rattle.std.proofs.lemmas.Grind.{common_steps}
use Rattle.std.proofs.Common.{◌≡◌, ℕ, zero, suc, ◌^◌, ◌<◌, ◌≤◌, cond, ◌&&◌, eqb, leb, List, [], ◌∷◌, map, length, get_or, take, Some, None, Option, sym, refl, ap, ◌∙◌, subst}
use Rattle.std.specs.List.{AllByRecursion}
use Rattle.std.proofs.lemmas.Bool.{and_parts, leb-true, eqb-true}
use Rattle.schedule.specs.Plan.{Plan, flow_count}
use Rattle.schedule.specs.Limits.{within}
use Rattle.network.specs.declared.row.Row.{Row}
use Rattle.network.specs.Lawful.{ClocksNear, Meaning, Lawful, port_count}
use Rattle.network.specs.Calls.{Network, Call, Reply, first_above, clock_fault, start_refused, wrong_base, wrong_counts, run, replies}
use Rattle.network.specs.Functions.{Core, functions, new}
use Rattle.network.specs.Tables.{Tables, blank, tables, reads}
use Rattle.network.specs.Guarantee.{AllFit, kept, told, Alike, Guaranteed}
use Rattle.network.specs.Shows.{RowShows, Shows}
use Rattle.network.specs.Whole.{NewlyStarted, KeptPromises, CarriedOut, Whole}
use Rattle.network.proofs.Theorem.{guarantee}
use Rattle.network.proofs.Bridge.{tables_show}
use Rattle.network.proofs.Accepted.{passes}
use Rattle.std.proofs.lemmas.List.{get_or_default}

-- the first calls of a list bring fit plans if all do
take_fit : (i : ℕ) (cs : List Call) → AllFit cs → AllFit (take i cs)
take_fit zero cs b = tt
take_fit (suc i) [] b = b
take_fit (suc i) (c ∷ cs) b = (b.0, take_fit i cs b.1)

none_fault : (v : Option ℕ) → clock_fault v ≡ None → v ≡ None
none_fault None e = refl
none_fault (Some p) e = cc

none_above : {K : Type 0} (bound : K → ℕ) (error k : ℕ) (ks : List K) → first_above error k (map bound ks) ≡ None → AllByRecursion (λ (x : K). bound x ≤ error) ks
none_above bound error k [] e = tt
none_above bound error k (x ∷ ks) e =
    let (a, b) = passes (leb (bound x) error) k (first_above error (suc k) (map bound ks)) e in
    (leb-true (bound x) error a, none_above bound error (suc k) ks b)

-- what an accepted start tells
pub record Starts {K : Type 0} (bound : K → ℕ) (P : Plan) (B : ℕ) (ks : List K) (count : ℕ) : Type 0 where
  pub counted : count ≡ port_count P
  pub low : P.error ≤ B
  pub high : B ≤ 2 ^ 47
  pub bounded : AllByRecursion (λ (x : K). bound x ≤ P.error) ks

pub starts : {K : Type 0} (bound : K → ℕ) (P : Plan) (B : ℕ) (ks : List K) (count : ℕ) → start_refused P B (map bound ks) count ≡ None → Starts bound P B ks count
starts bound P B ks count e =
    let (a, e1) = passes (eqb (length (map bound ks)) (port_count P) && eqb count (port_count P)) wrong_counts
    (cond (within P.error (2 ^ 47) B) (clock_fault (first_above P.error 0 (map bound ks))) (Some wrong_base)) e in
    let (b, e2) = passes (within P.error (2 ^ 47) B) wrong_base (clock_fault (first_above P.error 0 (map bound ks))) e1 in
    let (lo, hi) = and_parts (leb P.error B) (leb B (2 ^ 47)) b in
    record {
      counted = eqb-true count (port_count P) (and_parts (eqb (length (map bound ks)) (port_count P)) (eqb count (port_count P)) a).1;
      low = leb-true P.error B lo;
      high = leb-true B (2 ^ 47) hi;
      bounded = none_above bound P.error 0 ks (none_fault (first_above P.error 0 (map bound ks)) e2);
    }

module _ {K : Type 0} (reading : K → ℕ → ℕ) (bound : K → ℕ) (near : (error : ℕ) (ks : List K) → AllByRecursion (λ k. bound k ≤ error) ks → ClocksNear error (reads reading ks)) where
  module _ {S : Type 0} (X : Meaning S) (law : Lawful X) (ks : List K) (n : Network (Tables S)) (cs : List Call) (fits : AllFit cs)
      (n' : Network (Tables S)) (rs : List Reply) (state : n' ≡ run (tables (reads reading ks) X) cs n) (replied : rs ≡ replies (tables (reads reading ks) X) cs n) where
    abbrev ρ : ℕ → ℕ → ℕ
    ρ = reads reading ks

    module _ (ss : List S) (d : S) (new_n : NewlyStarted bound ks ss n) where
      abbrev m : Network (Core S)
      m = new n.plan n.base (λ p. get_or ss p d)

      started : Starts bound n.plan n.base ks (length ss)
      started = starts bound n.plan n.base ks (length ss) new_n.accepted

      pub shown : (replies (tables ρ X) cs n ≡ replies (functions ρ X) cs m) × Shows (run (tables ρ X) cs n) (run (functions ρ X) cs m)
      shown = subst (λ z. (replies (tables ρ X) cs z ≡ replies (functions ρ X) cs m) × Shows (run (tables ρ X) cs z) (run (functions ρ X) cs m)) (sym new_n.new)
          (tables_show n.plan n.base ρ X ss (λ p. get_or ss p d) started.high started.counted (λ p e h. get_or_default ss p e d h) cs)

      guaranteed : {R : Type 0} (Y : Meaning R) → Lawful Y → (r : ℕ → R) → Guaranteed n.plan n.base ρ X Y (λ p. get_or ss p d) r
      guaranteed Y lawY r = guarantee n.plan n.base ρ new_n.fit started.low started.high (near n.plan.error ks started.bounded) X Y law lawY (λ p. get_or ss p d) r

      kept_promises : KeptPromises ρ X m cs n' rs
      kept_promises = record {
        shows = subst (λ z. Shows z (run (functions ρ X) cs m)) (sym state) shown.1;
        replied = replied ∙ shown.0;
        always = λ i k lim. (guaranteed X law (λ p. get_or ss p d)).always (take i cs) (take_fit i cs fits) k lim;
      }

    pub carried_out : CarriedOut reading bound X ks n cs n' rs
    carried_out = record { state = state; replied = replied; promises = kept_promises }

  -- rows that show the same are the same
  row_same : (r q : Row) {x y : _} {a b : List ℕ} {k l : List (ℕ × ℕ)} → RowShows r x a k → RowShows q y b l → x ≡ y → a ≡ b → k ≡ l → r ≡ q
  row_same r q s t e f g = grind (arith, common_steps)

  module _ {S R : Type 0} (X : Meaning S) (Y : Meaning R) (lawX : Lawful X) (lawY : Lawful Y)
      (ks : List K) (n : Network (Tables S)) (cs : List Call) (fc : AllFit cs) (n' : Network (Tables S)) (rs : List Reply)
      (ls : List K) (m : Network (Tables R)) (ds : List Call) (fd : AllFit ds) (m' : Network (Tables R)) (qs : List Reply)
      (sn : n' ≡ run (tables (reads reading ks) X) cs n) (rn : rs ≡ replies (tables (reads reading ks) X) cs n)
      (sm : m' ≡ run (tables (reads reading ls) Y) ds m) (rm : qs ≡ replies (tables (reads reading ls) Y) ds m) where
    isolated : (ss : List S) (ts : List R) (d : S) (e : R) → NewlyStarted bound ks ss n → NewlyStarted bound ls ts m → n.plan ≡ m.plan → n.base ≡ m.base → ks ≡ ls
        → (f : ℕ) → kept f cs ≡ kept f ds
        → (told f cs rs ≡ told f ds qs) × (n'.plan ≡ m'.plan) × (f < flow_count n'.plan → get_or n'.core.rows f blank ≡ get_or m'.core.rows f blank)
    isolated ss ts d e nn nm pe be ke f same =
        let a = shown X lawX ks n cs fc n' rs sn rn ss d nn in
        let b = shown Y lawY ls m ds fd m' qs sm rm ts e nm in
        let r = λ (p : ℕ). get_or ts p e in
        let g = (guaranteed X lawX ks n cs fc n' rs sn rn ss d nn Y lawY r).isolated cs ds fc fd f same in
        let to : run (functions (reads reading ks) Y) ds (new n.plan n.base r) ≡ run (functions (reads reading ls) Y) ds (new m.plan m.base r)
        = (λ i. run (functions (reads reading (ke i)) Y) ds (new (pe i) (be i) r)) in
        let re : replies (functions (reads reading ks) Y) ds (new n.plan n.base r) ≡ replies (functions (reads reading ls) Y) ds (new m.plan m.base r)
        = (λ i. replies (functions (reads reading (ke i)) Y) ds (new (pe i) (be i) r)) in
        let F = run (functions (reads reading ks) X) cs (new n.plan n.base (λ p. get_or ss p d)) in
        let G = run (functions (reads reading ls) Y) ds (new m.plan m.base r) in
        let al : Alike f F G = subst (Alike f F) to g.1 in
        let sa : Shows n' F = subst (λ z. Shows z F) (sym sn) a.1 in
        let sb : Shows m' G = subst (λ z. Shows z G) (sym sm) b.1 in
        let plans : n'.plan ≡ m'.plan = sa.plan ∙ al.plan ∙ sym sb.plan in (
          ap (told f cs) (rn ∙ a.0) ∙ g.0 ∙ ap (told f ds) re ∙ sym (ap (told f ds) (rm ∙ b.0)),
          plans,
          λ h. row_same (get_or n'.core.rows f blank) (get_or m'.core.rows f blank)
              (sa.rows f (subst (λ P. f < flow_count P) sa.plan h)) (sb.rows f (subst (λ P. f < flow_count P) (plans ∙ sb.plan) h)) al.flight al.accepted al.arrived,
        )

    pub whole : Whole reading bound X Y ks n cs n' rs ls m ds m' qs
    whole = record {
      first = carried_out X lawX ks n cs fc n' rs sn rn;
      second = carried_out Y lawY ls m ds fd m' qs sm rm;
      isolated = isolated;
    }
