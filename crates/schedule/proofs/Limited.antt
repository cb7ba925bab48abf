-- What the tests of limits say of each number.
use Rattle.std.proofs.Common.{◌≡◌, ℕ, zero, suc, ◌<◌, ◌≤◌, true, not, ◌&&◌, eqb, ltb, leb, List, [], ◌∷◌, length, get_or, sym, arith}
use Rattle.std.proofs.lemmas.Bool.{and_parts, or_left, or_right, ltb-true, leb-true, eq-eqb, not-true, both_ways}
use Rattle.std.proofs.lemmas.List.Sums.{AllPass-from_list_all}
use Rattle.schedule.specs.Limits.{within, each_below, among, ports_differ}

pub within_low : (low high n : ℕ) → within low high n ≡ true → low ≤ n
within_low low high n e = leb-true low n (and_parts (leb low n) (leb n high) e).0

pub within_high : (low high n : ℕ) → within low high n ≡ true → n ≤ high
within_high low high n e = leb-true n high (and_parts (leb low n) (leb n high) e).1

pub each_below_at : (bound : ℕ) (ns : List ℕ) → each_below bound ns ≡ true → (i d : ℕ) → i < length ns → get_or ns i d < bound
each_below_at bound ns e i d h = ltb-true (get_or ns i d) bound (AllPass-from_list_all (λ n. ltb n bound) ns e i d h)

pub differ_at : (count : ℕ) (ps : List ℕ) → ports_differ count ps ≡ true → (i : ℕ) → i < length ps → get_or ps i 0 < count
differ_at count [] e i h = absurd (omega arith)
differ_at count (p ∷ ps) e zero h = ltb-true p count (and_parts (ltb p count) (not (among p ps) && ports_differ count ps) e).0
differ_at count (p ∷ ps) e (suc i) h =
    let (a, b) = and_parts (ltb p count) (not (among p ps) && ports_differ count ps) e in
    differ_at count ps (and_parts (not (among p ps)) (ports_differ count ps) b).1 i (omega arith)

-- a number that stands at a place is among them
among_at : (ps : List ℕ) (i n : ℕ) → i < length ps → n ≡ get_or ps i 0 → among n ps ≡ true
among_at [] i n h e = absurd (omega arith)
among_at (p ∷ ps) zero n h e = or_left (eqb p n) (among n ps) (eq-eqb p n (sym e))
among_at (p ∷ ps) (suc i) n h e = or_right (eqb p n) (among n ps) (among_at ps i n (omega arith) e)

pub differ_apart : (count : ℕ) (ps : List ℕ) → ports_differ count ps ≡ true → (i j : ℕ) → i < j → j < length ps → get_or ps i 0 ≡ get_or ps j 0 → ⊥
differ_apart count [] e i j l h q = absurd (omega arith)
differ_apart count (p ∷ ps) e zero zero l h q = absurd (omega arith)
differ_apart count (p ∷ ps) e (suc i) zero l h q = absurd (omega arith)
differ_apart count (p ∷ ps) e zero (suc j) l h q =
    let (a, b) = and_parts (ltb p count) (not (among p ps) && ports_differ count ps) e in
    let (c, d) = and_parts (not (among p ps)) (ports_differ count ps) b in
    both_ways (among p ps) (not-true (among p ps) c) (among_at ps j p (omega arith) q)
differ_apart count (p ∷ ps) e (suc i) (suc j) l h q =
    let (a, b) = and_parts (ltb p count) (not (among p ps) && ports_differ count ps) e in
    let (c, d) = and_parts (not (among p ps)) (ports_differ count ps) b in
    differ_apart count ps d i j (omega arith) (omega arith) q
