-- What is promised of two networks newly started, and of the lists of calls carried out on them.
use Rattle.std.specs.Prelude.{◌≡◌, ℕ, ◌+◌, ◌^◌, ◌<◌, ◌≤◌, List, map, length, get_or, take, None, slice_index_or}
use Rattle.schedule.specs.Plan.{flow_count}
use Rattle.network.specs.Lawful.{Fit, Meaning}
use Rattle.network.specs.Calls.{Network, Call, Reply, start_refused, ticks, run, replies}
use Rattle.network.specs.Functions.{Core, functions, new}
use Rattle.network.specs.Tables.{Tables, blank, tables, reads, new_tables}
use Rattle.network.specs.Guarantee.{Promised, kept, told}
use Rattle.network.specs.Shows.{Shows}

-- the network is one that a start has just made of a checked plan, with clocks of these bounds and these selections
pub record NewlyStarted {S K : Type 0} (bound : K → ℕ) (clocks : List K) (selections : List S) (n : Network (Tables S)) : Type 0 where
  pub fit : Fit n.plan
  pub accepted : start_refused n.plan n.base (map bound clocks) (length selections) ≡ None
  pub new : n ≡ new_tables n.plan n.base selections

-- what is promised of one such network, m, as functions: the tables show it after the calls, it replies alike, and after the first i calls and k more ticks each flow is punctual and the windows are clear
pub record KeptPromises {S : Type 0} (ρ : ℕ → ℕ → ℕ) (X : Meaning S) (m : Network (Core S)) (cs : List Call) (n : Network (Tables S)) (rs : List Reply) : Type 0 where
  pub shows : Shows n (run (functions ρ X) cs m)
  pub replied : rs ≡ replies (functions ρ X) cs m
  pub always : (i k : ℕ) → (run (functions ρ X) (take i cs) m).core.now + k ≤ 2 ^ 48 → Promised ρ X (ticks (functions ρ X) k (run (functions ρ X) (take i cs) m))

-- of one network n with these clocks: the calls cs leave n' and have the replies rs, as defined; and if it was newly started the promises are kept. d stands for the selection of a port that is not there
pub record CarriedOut {S K : Type 0} (reading : K → ℕ → ℕ) (bound : K → ℕ) (X : Meaning S) (clocks : List K) (n : Network (Tables S)) (cs : List Call) (n' : Network (Tables S)) (rs : List Reply) : Type 0 where
  pub state : n' ≡ run (tables (reads reading clocks) X) cs n
  pub replied : rs ≡ replies (tables (reads reading clocks) X) cs n
  pub promises : (selections : List S) (d : S) → NewlyStarted bound clocks selections n
      → KeptPromises (reads reading clocks) X (new n.plan n.base (λ p. get_or selections p d)) cs n' rs

-- of two networks with selections of two kinds: each is carried out as defined and keeps its promises; and if they were newly started with the same plan, base and clocks, then to each flow for which the lists differ only in other offers the calls reply alike, and its row is the same
pub record Whole {S R K : Type 0} (reading : K → ℕ → ℕ) (bound : K → ℕ) (X : Meaning S) (Y : Meaning R)
    (ks : List K) (n : Network (Tables S)) (cs : List Call) (n' : Network (Tables S)) (rs : List Reply)
    (ls : List K) (m : Network (Tables R)) (ds : List Call) (m' : Network (Tables R)) (qs : List Reply) : Type 0 where
  pub first : CarriedOut reading bound X ks n cs n' rs
  pub second : CarriedOut reading bound Y ls m ds m' qs
  pub isolated : (ss : List S) (ts : List R) (d : S) (e : R) → NewlyStarted bound ks ss n → NewlyStarted bound ls ts m → n.plan ≡ m.plan → n.base ≡ m.base → ks ≡ ls
      → (f : ℕ) → kept f cs ≡ kept f ds
      → (told f cs rs ≡ told f ds qs) × (n'.plan ≡ m'.plan) × (f < flow_count n'.plan → slice_index_or n'.core.rows f blank ≡ slice_index_or m'.core.rows f blank)
