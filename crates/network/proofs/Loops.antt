-- Loops that step each element by its place.
use Rattle.std.proofs.Common.{◌≡◌, ℕ, zero, suc, ◌+◌, ◌<◌, ◌≤◌, List, [], ◌∷◌, ◌++◌, map, length, get_or, take, drop, set, None, Option, sym, refl, ap, ◌∙◌, append-nil, zero-add, add-one, arith}
use Rattle.std.proofs.lemmas.Simd.{map-map}
use Rattle.std.proofs.lemmas.List.{take_all, drop_all, get_or-map, length-map, map-set}
use Rattle.schedule.specs.Plan.{Plan}
use Rattle.gates.specs.declared.timetable.Timetable.{Timetable}
use Rattle.gates.specs.Lookup.{octets}
use Rattle.network.specs.declared.clocked.ClockedPort.{ClockedPort}
use Rattle.network.specs.declared.row.Row.{Row}
use Rattle.network.specs.Lawful.{Meaning}
use Rattle.network.specs.Ports.{Port}
use Rattle.network.specs.Tables.{Tables, over, reads, port_through, port_part, flow_part, row_landed, row_departed, ticked_tables}
use Rattle.network.specs.Steps.{seen, joining, choosing, sending, passing, stepping}
use Rattle.network.specs.Clocked.{port_in, started_in, guide_of, whole, run_through}
use Rattle.network.specs.Traffic.{timetables, clocks, followed}

module _ {Y : Type 0} (F : ℕ → Y → Y) where
  -- after i turns
  abbrev pub sofar : List Y → ℕ → List Y
  sofar xs i = over F 0 (take i xs) ++ drop i xs

  at : (k : ℕ) (xs : List Y) (i : ℕ) (d : Y) → i < length xs → get_or (over F k (take i xs) ++ drop i xs) i d ≡ get_or xs i d
  at k [] i d h = absurd (omega arith)
  at k (x ∷ xs) zero d h = refl
  at k (x ∷ xs) (suc i) d h = at (suc k) xs i d (omega arith)

  turn : (k : ℕ) (xs : List Y) (i : ℕ) (d : Y) → i < length xs → set (over F k (take i xs) ++ drop i xs) i (F (k + i) (get_or xs i d)) ≡ over F k (take (suc i) xs) ++ drop (suc i) xs
  turn k [] i d h = absurd (omega arith)
  turn k (x ∷ xs) zero d h = ap (λ j. F j x ∷ xs) (let e : k + 0 ≡ k = omega arith in e)
  turn k (x ∷ xs) (suc i) d h = ap (λ j. F k x ∷ set (over F (suc k) (take i xs) ++ drop i xs) i (F j (get_or xs i d))) (let e : k + suc i ≡ suc k + i = omega arith in e) ∙ ap (λ l. F k x ∷ l) (turn (suc k) xs i d (omega arith))

  pub over_turn : (xs ys : List Y) (i : ℕ) (d y : Y) → i < length xs → ys ≡ sofar xs i → y ≡ F i (get_or ys i d) → set ys i y ≡ sofar xs (i + 1)
  over_turn xs ys i d y h inv e =
      let e' : y ≡ F (0 + i) (get_or xs i d) = e ∙ ap (F i) (ap (λ l. get_or l i d) inv ∙ at 0 xs i d h) ∙ ap (λ j. F j (get_or xs i d)) (sym (zero-add i)) in
      (λ k. set (inv k) i (e' k)) ∙ turn 0 xs i d h ∙ ap (sofar xs) (sym (add-one i))

  pub over_all : (xs ys : List Y) (i : ℕ) → ys ≡ sofar xs i → length xs ≤ i → ys ≡ over F 0 xs
  over_all xs ys i e h = e ∙ ap (λ l. over F 0 (take i xs) ++ l) (drop_all i xs h) ∙ append-nil _ ∙ ap (over F 0) (take_all i xs h)

  -- the same of a list seen through V
  pub seen_turn : {X : Type 0} (V : X → Y) (xs : List Y) (zs : List X) (i : ℕ) (d z : X) → i < length xs → i < length zs → map V zs ≡ sofar xs i → V z ≡ F i (V (get_or zs i d)) → map V (set zs i z) ≡ sofar xs (i + 1)
  seen_turn V xs zs i d z h k inv e = map-set V zs i z ∙ over_turn xs (map V zs) i (V d) (V z) h inv (e ∙ ap (F i) (sym (get_or-map V zs i d (V d) k)))

pub reads_at : {K : Type 0} (r : K → ℕ → ℕ) (ks : List K) (i t : ℕ) (d : K) → i < length ks → reads r ks i t ≡ r (get_or ks i d) t
reads_at r [] i t d h = absurd (omega arith)
reads_at r (k ∷ ks) zero t d h = refl
reads_at r (k ∷ ks) (suc i) t d h = reads_at r ks i t d (omega arith)

pub followed_at : (gs : List Timetable) (i : ℕ) (d : Timetable) → i < length gs → followed gs i ≡ octets (get_or gs i d)
followed_at [] i d h = absurd (omega arith)
followed_at (g ∷ gs) zero d h = refl
followed_at (g ∷ gs) (suc i) d h = followed_at gs i d (omega arith)

over_map : {A B C : Type 0} (g : ℕ → B → C) (V : A → B) (k : ℕ) (xs : List A) → over g k (map V xs) ≡ over (λ i x. g i (V x)) k xs
over_map g V k [] = refl
over_map g V k (x ∷ xs) = ap (λ l. g k (V x) ∷ l) (over_map g V (suc k) xs)

-- what each step keeps
over_keeps : {A B C : Type 0} (g : ℕ → A → B) (V : B → C) (W : A → C) → ((k : ℕ) (x : A) → V (g k x) ≡ W x) → (k : ℕ) (xs : List A) → map V (over g k xs) ≡ map W xs
over_keeps g V W e k [] = refl
over_keeps g V W e k (x ∷ xs) = λ i. e k x i ∷ over_keeps g V W e (suc k) xs i

-- step 1 and then the others are a tick at a port
pub through_by : {S : Type 0} (K : Meaning S) (P : Plan) (t : ℕ) (rows : List Row) (os : ℕ → ℕ) (l l' p : ℕ) (x j : Port S) (r : Port S × Option ℕ)
    → j ≡ joining P t rows p x → r ≡ stepping K P t os l j → l ≡ l' → r ≡ port_through K P t rows os l' p x
unfolding port_through joining choosing sending passing stepping
through_by K P t rows os l l' p x j r a b d = b ∙ (λ i. stepping K P t os (d i) (a i))

module _ {S K : Type 0} (r : K → ℕ → ℕ) (X : Meaning S) (P : Plan) (t : ℕ) (rows : List Row) where
  -- ports that go by their own gates and clocks go by those at their places
  through_all : (ys : List ((Port S × Option ℕ) × (Timetable × K))) (k : ℕ) (σ : ℕ → ℕ → ℕ) (ρ : ℕ → ℕ)
      → ((i j : ℕ) (d : (Port S × Option ℕ) × (Timetable × K)) → i < length ys → j ≡ k + i → (σ j ≡ octets (get_or ys i d).1.0) × (ρ j ≡ r (get_or ys i d).1.1 t))
      → map (λ y. y.0) (over (run_through r X P t rows) k ys) ≡ over (λ p x. port_through X P t rows (σ p) (ρ p) p x.0) k (map (λ y. y.0) ys)
  through_all [] k σ ρ h = refl
  through_all (y ∷ ys) k σ ρ h =
      let (a, b) = h 0 k y (omega arith) (omega arith) in
      λ i. port_through X P t rows (sym a i) (sym b i) k y.0.0 ∷ through_all ys (suc k) σ ρ (λ i j d l e. h (suc i) j d (omega arith) (omega arith)) i

  pub through_ports : (xs ys : List (ClockedPort S K)) → map whole ys ≡ over (run_through r X P t rows) 0 (map whole xs)
      → map (λ x. seen x.port) ys ≡ over (λ p x. port_through X P t rows (followed (timetables (map guide_of xs)) p) (reads r (clocks (map guide_of xs)) p t) p x.0) 0 (map (λ x. seen x.port) xs)
  through_ports xs ys a =
      let ws = map whole xs in
      let F : ℕ → Port S × Option ℕ → Port S × Option ℕ = λ p x. port_through X P t rows (followed (timetables (map guide_of xs)) p) (reads r (clocks (map guide_of xs)) p t) p x.0 in
      sym (map-map (λ y. y.0) whole ys) ∙ ap (map (λ y. y.0)) a
      ∙ through_all ws 0 (followed (timetables (map guide_of xs))) (λ p. reads r (clocks (map guide_of xs)) p t) here
      ∙ ap (over F 0) (map-map (λ y. y.0) whole xs)
    where
      gates : timetables (map guide_of xs) ≡ map (λ y. y.1.0) (map whole xs)
      gates = map-map (λ g. g.0) guide_of xs ∙ sym (map-map (λ y. y.1.0) whole xs)

      clock : clocks (map guide_of xs) ≡ map (λ y. y.1.1) (map whole xs)
      clock = map-map (λ g. g.1) guide_of xs ∙ sym (map-map (λ y. y.1.1) whole xs)

      here : (i j : ℕ) (d : (Port S × Option ℕ) × (Timetable × K)) → i < length (map whole xs) → j ≡ 0 + i
          → (followed (timetables (map guide_of xs)) j ≡ octets (get_or (map whole xs) i d).1.0) × (reads r (clocks (map guide_of xs)) j t ≡ r (get_or (map whole xs) i d).1.1 t)
      here i j d l e =
          let ws = map whole xs in
          let q : j ≡ i = omega arith in (
            (λ m. followed (gates m) (q m)) ∙ followed_at (map (λ y. y.1.0) ws) i d.1.0 (omega (arith, length-map ws (λ y. y.1.0))) ∙ ap octets (get_or-map (λ y. y.1.0) ws i d d.1.0 l),
            (λ m. reads r (clock m) (q m) t) ∙ reads_at r (map (λ y. y.1.1) ws) i t d.1.1 (omega (arith, length-map ws (λ y. y.1.1))) ∙ ap (λ k. r k t) (get_or-map (λ y. y.1.1) ws i d d.1.1 l),
          )

  pub guides_kept : (xs ys : List (ClockedPort S K)) → map whole ys ≡ over (run_through r X P t rows) 0 (map whole xs) → map guide_of ys ≡ map guide_of xs
  guides_kept xs ys a = sym (map-map (λ y. y.1) whole ys) ∙ ap (map (λ y. y.1)) a ∙ over_keeps (run_through r X P t rows) (λ y. y.1) (λ y. y.1) (λ k y. refl) 0 (map whole xs) ∙ map-map (λ y. y.1) whole xs

-- what the two loops leave is what a tick does
pub ticked_by : {S K : Type 0} (ρ : ℕ → ℕ → ℕ) (X : Meaning S) (P : Plan) (σ : ℕ → ℕ → ℕ) (t : ℕ) (xs ys : List (ClockedPort S K)) (rows rows' : List Row)
    → map (λ x. seen x.port) ys ≡ over (λ p x. port_through X P t rows (σ p) (ρ p t) p x.0) 0 (map (λ x. seen x.port) xs)
    → rows' ≡ over (λ f r. row_departed P t (λ p. get_or (map started_in ys) p None) f (row_landed P t f r)) 0 rows
    → ◌≡◌ {A = Tables S} (record { now = t + 1; rows = rows'; ports = map port_in ys }) (ticked_tables ρ X P σ (record { now = t; rows = rows; ports = map port_in xs }))
unfolding ticked_tables
ticked_by {S} {K} ρ X P σ t xs ys rows rows' a b =
    let G : ℕ → Port S → Port S × Option ℕ = λ p x. port_through X P t rows (σ p) (ρ p t) p x in
    let both : List (Port S × Option ℕ) = over G 0 (map port_in xs) in
    let V : ClockedPort S K → Port S × Option ℕ = λ x. seen x.port in
    let e : map V ys ≡ both = a ∙ over_map (λ p x. G p x.0) V 0 xs ∙ sym (over_map G port_in 0 xs) in
    let u : map port_in ys ≡ map port_part both = sym (map-map port_part V ys) ∙ ap (map port_part) e in
    let v : map started_in ys ≡ map flow_part both = sym (map-map flow_part V ys) ∙ ap (map flow_part) e in
    λ i. record { now = t + 1; rows = (b ∙ ap (λ (l : List (Option ℕ)). over (λ f r. row_departed P t (λ p. get_or l p None) f (row_landed P t f r)) 0 rows) v) i; ports = u i }
