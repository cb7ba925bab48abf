-- An accepted change, the tick at which it comes, and settling keep the invariant; and so every run does.
use Rattle.std.proofs.lemmas.Grind.{common_steps}
use Rattle.std.proofs.Common.{◌≡◌, ℕ, zero, suc, ◌+◌, ◌-◌, ◌*◌, ◌%◌, ◌^◌, ◌<◌, ◌≤◌, Bool, true, false, cond, ◌&&◌, eqb, leb, List, [], ◌∷◌, get_or, replicate, Some, None, Option, sym, refl, ap, ◌∙◌, subst, inl, inr, add-zero, arith}
use Rattle.std.specs.List.{AllByRecursion}
use Rattle.std.proofs.lemmas.Bool.{and_parts, cases_Bool, cases_lt, cases_eq, leb-true, eqb-true, eq-eqb, ne_eqb, false≢true}
use Rattle.schedule.specs.Plan.{Plan, flow_count, port_at, offset_at, delay_of}
use Rattle.schedule.specs.Limits.{unless}
use Rattle.gates.specs.Timetable.{Transition, steady, pending, replaced, hold_from, timetable, each}
use Rattle.egress.specs.declared.ordinary.Frame.{Frame}
use Rattle.network.specs.declared.flight.Flight.{Flight}
use Rattle.network.specs.declared.flight.Flight.TheVariants.{Idle, Waiting, Moving}
use Rattle.network.specs.Windows.{cycle_begin, Occurs}
use Rattle.network.specs.Lawful.{Fit, ClocksNear, Meaning, Lawful, port_count}
use Rattle.network.specs.Calls.{Network, Call, offer, queue, read_record, read_wire, advance, change, settle, queue_refused, advance_refused, change_tick, same_links, change_refused, settle_refused, in_order, switched, tick, ticks, refusal, done, after, run}
use Rattle.network.specs.Functions.{Core, ticked, offered, afresh, functions, new}
use Rattle.network.specs.Guarantee.{First, BringsFit, AllFit}
use Rattle.network.proofs.Turns.{rules}
use Rattle.network.proofs.Facts.{Facts, Sound, facts, crossed_lt, hold_le, hold_after, old_ends, new_begins}
use Rattle.network.proofs.Inv.{FlightOk, WaitsAt, Inv}
use Rattle.network.proofs.Starts.{not_late}
use Rattle.network.proofs.Keeps.{tick_inv}
use Rattle.network.proofs.Accepted.{passes, early_ge, offer_inv, queue_inv}

-- the error is the same
pub near_of : (P Q : Plan) (ρ : ℕ → ℕ → ℕ) → Q.error ≡ P.error → ClocksNear P.error ρ → ClocksNear Q.error ρ
near_of P Q ρ e near = subst (λ d. ClocksNear d ρ) (sym e) near

first_of : (P Q : Plan) (ρ : ℕ → ℕ → ℕ) (p W s : ℕ) → Q.error ≡ P.error → First P.error (ρ p) W s → First Q.error (ρ p) W s
first_of P Q ρ p W s e f = subst (λ d. First d (ρ p) W s) (sym e) f

module _ (P : Plan) (B : ℕ) (ρ : ℕ → ℕ → ℕ) (low : P.error ≤ B) (near : ClocksNear P.error ρ) {S : Type 0} (n : Core S) where
  -- from the hold on nothing is left
  module _ (Q : Plan) (T : ℕ) (sound : Sound P B (pending Q T)) (inv : Inv P B (pending Q T) ρ n) (past : hold_from P B T ≤ n.now) where
    pub drained : (f : ℕ) → n.flight f ≡ Idle
    drained f = elim (cases_lt f (flow_count P)) [ inr fo ↦ inv.absent f fo | inl fi ↦ by fi (n.flight f) (inv.flights f fi) ]
      where
        by : f < flow_count P → (x : Flight) → FlightOk P B (pending Q T) ρ n.now n.now f x → x ≡ Idle
        by fi Idle ok = refl
        by fi (Waiting h u) w =
            let l = not_late P B (pending Q T) ρ (facts P B (pending Q T) sound) low near (port_at P f h) (cycle_begin P B w.cycles + offset_at P f h) n.now inv.top w.not_yet in
            let g = (sound.0.good f fi h w.hop_in).ends in
            absurd (omega (arith, hold_after P B T sound.3 w.cycles w.counts))
        by fi (Moving h u a) w =
            let t = inv.top in
            let st = w.started in let ye = w.yet in let ar = w.arrives in
            let l = not_late P B (pending Q T) ρ (facts P B (pending Q T) sound) low near (port_at P f h) (cycle_begin P B w.cycles + offset_at P f h) w.start (omega arith) w.first.not_before in
            absurd (omega (arith, hold_after P B T sound.3 w.cycles w.counts, crossed_lt P sound.0 f h fi w.hop_in))

    -- the tick of the change
    switch_inv : n.now ≡ T → Inv Q T (replaced P B) ρ (afresh n)
    unfolding afresh
    switch_inv at = record {
      base = omega arith;
      top = inv.top;
      flights = λ f fi. tt;
      lines = λ p. inl (elim (inv.lines p) [ inl l ↦ l.0 | inr l ↦ absurd (subst (WaitsAt P B (pending Q T) ρ p l.0) (drained l.0) l.2) ], λ f fi w. w);
      wires = λ p. (let v = inv.wires p in record {
        sched = λ c u. (let (W, w, occ, s, first, b, e) = v.sched c u in (W, w, occ, s, first_of P Q ρ p W s sound.2 first, b, e));
        clear = λ c s a b busy. (let (W, w, occ, x, y) = busy in let e = sound.2 in v.clear c s a b (W, w, occ, omega arith, omega arith));
        short = v.short;
      });
      small = inv.small;
      absent = λ f _. refl;
      once = λ f _. refl;
      on_time = λ _ _. tt;
    }

  -- an accepted change
  change_inv : (Q : Plan) (T : ℕ) → Sound P B (pending Q T) → n.now + 1542 + 2 * P.error ≤ hold_from P B T → Inv P B steady ρ n → Inv P B (pending Q T) ρ n
  change_inv Q T sound room inv = record {
    base = inv.base;
    top = inv.top;
    flights = λ f fi. by f fi (n.flight f) (inv.flights f fi);
    lines = inv.lines;
    wires = λ p. (let v = inv.wires p in record {
      sched = λ c u. (let (W, w, win, s, first, b, e) = v.sched c u in (W, w, inl (win, omega (arith, first.from, win.begins, (rules P B sound.0 win.turn).guarded)), s, first, b, e));
      clear = λ c s a b busy. (let (W, w, occ, x, y) = busy in clear p c s a b W w occ x y);
      short = v.short;
    });
    small = inv.small;
    absent = inv.absent;
    once = inv.once;
    on_time = inv.on_time;
  }
    where
      F : Facts P B steady
      F = facts P B steady sound.0

      by : (f : ℕ) → f < flow_count P → (x : Flight) → FlightOk P B steady ρ n.now n.now f x → FlightOk P B (pending Q T) ρ n.now n.now f x
      by f fi Idle ok = tt
      by f fi (Waiting h u) w = record { cycles = w.cycles; counts = omega (arith, w.reached, early_ge P B steady ρ F low near f h fi w.hop_in); hop_in = w.hop_in; released = w.released; reached = w.reached; not_yet = w.not_yet }
      by f fi (Moving h u a) m = record { cycles = m.cycles; counts = omega (arith, m.first.from, m.started, (sound.0.good f fi h m.hop_in).guarded); start = m.start; hop_in = m.hop_in; released = m.released; first = m.first; started = m.started; arrives = m.arrives; yet = m.yet }

      clear : (p : ℕ) → ((n.port p).class ≡ 7 → ⊥) → (s : ℕ) → n.now ≤ s + 1 → s < (n.port p).until → (W w : ℕ) → Occurs P B (pending Q T) p W w → W ≤ s + P.error → s < W + w + P.error → ⊥
      clear p c s a b W w (inl win) x y = (inv.wires p).clear c s a b (W, w, win.0, x, y)
      clear p c s a b W w (inr win) x y =
          omega (arith, (inv.wires p).short c, hold_le P B T sound.3, new_begins P B Q T sound.0 sound.1 sound.3 P.error refl sound.2 win)

  -- settling
  settle_inv : (O : Plan) (A : ℕ) → Sound P B (replaced O A) → B + P.error ≤ n.now → Inv P B (replaced O A) ρ n → Inv P B steady ρ n
  settle_inv O A sound past inv = record {
    base = inv.base;
    top = inv.top;
    flights = λ f fi. by f (n.flight f) (inv.flights f fi);
    lines = inv.lines;
    wires = λ p. (let v = inv.wires p in record {
      sched = λ c u. (let (W, w, occ, s, first, b, e) = v.sched c u in sched p W w occ s first b e u);
      clear = λ c s a b busy. (let (W, w, win, x, y) = busy in v.clear c s a b (W, w, inr win, x, y));
      short = v.short;
    });
    small = inv.small;
    absent = inv.absent;
    once = inv.once;
    on_time = inv.on_time;
  }
    where
      F : Facts P B (replaced O A)
      F = facts P B (replaced O A) sound

      by : (f : ℕ) → (x : Flight) → FlightOk P B (replaced O A) ρ n.now n.now f x → FlightOk P B steady ρ n.now n.now f x
      by f Idle ok = tt
      by f (Waiting h u) w = record { cycles = w.cycles; counts = tt; hop_in = w.hop_in; released = w.released; reached = w.reached; not_yet = w.not_yet }
      by f (Moving h u a) m = record { cycles = m.cycles; counts = tt; start = m.start; hop_in = m.hop_in; released = m.released; first = m.first; started = m.started; arrives = m.arrives; yet = m.yet }

      sched : (p W w : ℕ) → Occurs P B (replaced O A) p W w → (s : ℕ) → First P.error (ρ p) W s → s < n.now → (n.port p).until ≤ s + w → n.now < (n.port p).until
          → (W : ℕ) × (w : ℕ) × Occurs P B steady p W w × (s : ℕ) × First P.error (ρ p) W s × (s < n.now) × ((n.port p).until ≤ s + w)
      sched p W w (inr win) s first b e u = (W, w, win, s, first, b, e)
      sched p W w (inl win) s first b e u =
          let t = inv.top in
          let l = not_late P B (replaced O A) ρ F low near p W s (omega arith) first.not_before in
          absurd (omega (arith, hold_le O A B sound.3, old_ends O A P B sound.1 sound.0 sound.3 P.error (sym sound.2) refl win.0 win.1))

-- a change that is to come lies ahead
abbrev Ahead : Transition → ℕ → Type 0
Ahead steady t = Unit {0}
Ahead (pending Q T) t = t < T
Ahead (replaced O A) t = Unit {0}

-- what every call keeps, from a start with plan P₀ on
pub record Ok (P₀ : Plan) (ρ : ℕ → ℕ → ℕ) {S : Type 0} (n : Network (Core S)) : Type 0 where
  pub sound : Sound n.plan n.base n.transition
  pub err : n.plan.error ≡ P₀.error
  pub low : n.plan.error ≤ n.base
  pub ahead : Ahead n.transition n.core.now
  pub inv : Inv n.plan n.base n.transition ρ n.core

-- what accepted calls tell
queue_small : (P : Plan) (p c octets label waiting : ℕ) → queue_refused P p c octets label waiting ≡ None → octets ≤ 1522
queue_small P p c octets label waiting e = grind (arith, common_steps, passes, leb-true)

pub advance_fits : (t k : ℕ) → advance_refused t k ≡ None → t + k ≤ 2 ^ 48
advance_fits t k e = grind (arith, common_steps, passes, leb-true)

changes : (P : Plan) (B t : ℕ) (Q : Plan) (A T : ℕ) → change_refused P B t Q A T ≡ None → (Q.error ≡ P.error) × (t + 1542 + 2 * P.error ≤ hold_from P B T)
changes P B t Q A T e =
    let (a, e1) = passes (same_links P Q) 61 (unless (leb A (2 ^ 47) && leb T (2 ^ 47)) 62 (unless (leb ((T - B) % P.cycle) P.extension) 63 (unless (leb (t + 1542 + 2 * P.error) (hold_from P B T)) 64 None))) e in
    let (_, e2) = passes (leb A (2 ^ 47) && leb T (2 ^ 47)) 62 (unless (leb ((T - B) % P.cycle) P.extension) 63 (unless (leb (t + 1542 + 2 * P.error) (hold_from P B T)) 64 None)) e1 in
    let (_, e3) = passes (leb ((T - B) % P.cycle) P.extension) 63 (unless (leb (t + 1542 + 2 * P.error) (hold_from P B T)) 64 None) e2 in
    let (d, _) = passes (leb (t + 1542 + 2 * P.error) (hold_from P B T)) 64 None e3 in
    let (_, c) = and_parts (eqb (port_count Q) (port_count P)) (eqb Q.error P.error && each (port_count P) (λ p. eqb (delay_of Q p) (delay_of P p))) a in
    let (b, _) = and_parts (eqb Q.error P.error) (each (port_count P) (λ p. eqb (delay_of Q p) (delay_of P p))) c in
    (eqb-true Q.error P.error b, leb-true (t + 1542 + 2 * P.error) (hold_from P B T) d)

module _ (P₀ : Plan) (ρ : ℕ → ℕ → ℕ) (near : ClocksNear P₀.error ρ) where
  pub near_at : {S : Type 0} (n : Network (Core S)) → Ok P₀ ρ n → ClocksNear n.plan.error ρ
  near_at n ok = near_of P₀ n.plan ρ ok.err near

  module _ {S : Type 0} (K : Meaning S) (law : Lawful K) where
    switched_ok : (P : Plan) (B : ℕ) (tr : Transition) (n : Core S) → Sound P B tr → P.error ≡ P₀.error → P.error ≤ B → (t : ℕ) → Ahead tr t → n.now ≡ t + 1 → Inv P B tr ρ n → Ok P₀ ρ (switched (functions ρ K) P B tr n)
    switched_ok P B steady n s e l t a at inv = record { sound = s; err = e; low = l; ahead = tt; inv = inv }
    switched_ok P B (replaced O A) n s e l t a at inv = record { sound = s; err = e; low = l; ahead = tt; inv = inv }
    switched_ok P B (pending Q T) n s e l t a at inv = elim (cases_eq n.now T) [
      | inl q ↦ rw (eq-eqb n.now T q) (let b = s.2 in let c = s.3 in record {
        sound = (s.1, s.0, s.2, s.3);
        err = s.2 ∙ e;
        low = omega arith;
        ahead = tt;
        inv = switch_inv P B ρ l (near_of P₀ P ρ e near) n Q T s inv (omega (arith, hold_le P B T c)) q;
      })
      | inr q ↦ rw (ne_eqb n.now T q) (record { sound = s; err = e; low = l; ahead = omega arith; inv = inv })
    ]

    switched_now : (P : Plan) (B : ℕ) (tr : Transition) (n : Core S) → (switched (functions ρ K) P B tr n).core.now ≡ n.now
    unfolding afresh
    switched_now P B steady n = refl
    switched_now P B (replaced O A) n = refl
    switched_now P B (pending Q T) n = elim (cases_Bool (eqb n.now T)) [ inl e ↦ rw e refl | inr e ↦ rw e refl ]

    module _ (n : Network (Core S)) (ok : Ok P₀ ρ n) where
      F : Facts n.plan n.base n.transition
      F = facts n.plan n.base n.transition ok.sound

      pub ticked_inv : n.core.now < 2 ^ 48 → Inv n.plan n.base n.transition ρ (ticked ρ K n.plan (timetable n.plan n.base n.transition) n.core)
      ticked_inv lim = tick_inv n.plan n.base n.transition ρ F ok.low (near_at n ok) n.core ok.inv lim K law

    ticked_now : (n : Core S) (P : Plan) (σ : ℕ → ℕ → ℕ) → (ticked ρ K P σ n).now ≡ n.now + 1
    unfolding ticked
    ticked_now n P σ = refl

    pub tick_now : (n : Network (Core S)) → (tick (functions ρ K) n).core.now ≡ n.core.now + 1
    unfolding tick
    tick_now n = grind (arith, common_steps, switched_now, ticked_now)

    pub tick_ok : (n : Network (Core S)) → Ok P₀ ρ n → n.core.now < 2 ^ 48 → Ok P₀ ρ (tick (functions ρ K) n)
    unfolding tick
    tick_ok n ok lim = switched_ok n.plan n.base n.transition (ticked ρ K n.plan (timetable n.plan n.base n.transition) n.core) ok.sound ok.err ok.low n.core.now ok.ahead
        (ticked_now n.core n.plan (timetable n.plan n.base n.transition)) (ticked_inv n ok lim)

    pub ticks_ok : (n : Network (Core S)) → Ok P₀ ρ n → (k : ℕ) → n.core.now + k ≤ 2 ^ 48 → Ok P₀ ρ (ticks (functions ρ K) k n) × ((ticks (functions ρ K) k n).core.now ≡ n.core.now + k)
    ticks_ok n ok zero lim = (ok, sym (add-zero n.core.now))
    ticks_ok n ok (suc k) lim =
        let r = ticks_ok n ok k (omega arith) in let e = r.1 in
        (tick_ok (ticks (functions ρ K) k n) r.0 (omega arith), tick_now (ticks (functions ρ K) k n) ∙ ap (λ z. z + 1) e ∙ (let q : n.core.now + k + 1 ≡ n.core.now + suc k = omega arith in q))

    settles : (n : Network (Core S)) → Ok P₀ ρ n → (tr : Transition) → in_order tr settle ≡ true → Sound n.plan n.base tr → Inv n.plan n.base tr ρ n.core → settle_refused n.plan n.base tr n.core.now ≡ None
        → Fit n.plan × Inv n.plan n.base steady ρ n.core
    settles n ok steady o s i e = absurd (false≢true o)
    settles n ok (pending Q T) o s i e = cc
    settles n ok (replaced O A) o s i e = (
      s.0,
      settle_inv n.plan n.base ρ ok.low (near_at n ok) n.core O A s
          (leb-true (n.base + n.plan.error) n.core.now (passes (leb (n.base + n.plan.error) n.core.now) 71 None e).0) i,
    )

    alone : (tr : Transition) (Q : Plan) (A : ℕ) → in_order tr (change Q A) ≡ true → tr ≡ steady
    alone steady Q A e = refl
    alone (pending _ _) Q A e = absurd (false≢true e)
    alone (replaced _ _) Q A e = absurd (false≢true e)

    ahead_offered : (n : Core S) (P : Plan) (f : ℕ) (tr : Transition) → Ahead tr n.now → Ahead tr (offered P f n).now
    unfolding offered
    ahead_offered n P f tr a = a

    done_ok : (n : Network (Core S)) → Ok P₀ ρ n → (c : Call) → BringsFit c → in_order n.transition c ≡ true → refusal (functions ρ K) n c ≡ None → Ok P₀ ρ (done (functions ρ K) n c)
    done_ok n ok (offer f) b o e = record {
      sound = ok.sound;
      err = ok.err;
      low = ok.low;
      ahead = ahead_offered n.core n.plan f n.transition ok.ahead;
      inv = offer_inv n.plan n.base n.transition ρ (F n ok) ok.low (near_at n ok) n.core ok.inv f e;
    }
    done_ok n ok (queue p c octets label) b o e = record {
      sound = ok.sound;
      err = ok.err;
      low = ok.low;
      ahead = ok.ahead;
      inv = queue_inv n.plan n.base n.transition ρ (F n ok) ok.low (near_at n ok) n.core ok.inv p c (record { octets = octets; label = label })
          (queue_small n.plan p c octets label ((functions ρ K).queued n.core p c) e);
    }
    done_ok n ok (read_record f) b o e = ok
    done_ok n ok (read_wire p) b o e = ok
    done_ok n ok (advance k) b o e = (ticks_ok n ok k (advance_fits n.core.now k e)).0
    done_ok n ok (change Q A) fit o e =
        let P = n.plan in let B = n.base in let T = change_tick n.core.now Q A in
        let al = alone n.transition Q A o in
        let (er, room) = changes P B n.core.now Q A T e in
        let b = ok.inv.base in
        let good : Fit P = subst (Sound P B) al ok.sound in
        let sound : Sound P B (pending Q T) = (good, fit, er, omega arith) in
        record {
          sound = sound;
          err = ok.err;
          low = ok.low;
          ahead = omega arith;
          inv = change_inv P B ρ ok.low (near_at n ok) n.core Q T sound room (subst (λ tr. Inv P B tr ρ n.core) al ok.inv);
        }
    done_ok n ok settle b o e =
        let (s, i) = settles n ok n.transition o ok.sound ok.inv e in
        record { sound = s; err = ok.err; low = ok.low; ahead = tt; inv = i }

    pub after_ok : (n : Network (Core S)) → Ok P₀ ρ n → (c : Call) → BringsFit c → Ok P₀ ρ (after (functions ρ K) n c)
    after_ok n ok c b = ordered (in_order n.transition c) refl
      where
        unrefused : (o : in_order n.transition c ≡ true) (v : Option ℕ) → refusal (functions ρ K) n c ≡ v → Ok P₀ ρ (elim v [ None ↦ done (functions ρ K) n c | Some k ↦ n ])
        unrefused o None e = done_ok n ok c b o e
        unrefused o (Some k) e = ok

        ordered : (o : Bool) → in_order n.transition c ≡ o → Ok P₀ ρ (cond o (elim (refusal (functions ρ K) n c) [ None ↦ done (functions ρ K) n c | Some k ↦ n ]) n)
        ordered true o = unrefused o (refusal (functions ρ K) n c) refl
        ordered false o = ok

    pub run_ok : (cs : List Call) → AllFit cs → (n : Network (Core S)) → Ok P₀ ρ n → Ok P₀ ρ (run (functions ρ K) cs n)
    run_ok [] b n ok = ok
    run_ok (c ∷ cs) b n ok = run_ok cs b.1 (after (functions ρ K) n c) (after_ok n ok c b.0)

  pub new_ok : (B : ℕ) {S : Type 0} (s : ℕ → S) → Fit P₀ → P₀.error ≤ B → B ≤ 2 ^ 47 → Ok P₀ ρ (new P₀ B s)
  new_ok B s fit low high = record {
    sound = fit;
    err = refl;
    low = low;
    ahead = tt;
    inv = record {
      base = omega arith;
      top = omega arith;
      flights = λ _ _. tt;
      lines = λ p. inl (refl, λ _ _ w. w);
      wires = λ p. record { sched = λ c u. absurd (omega arith); clear = λ _ s _ u. absurd (omega arith); short = λ _. omega arith };
      small = small;
      absent = λ _ _. refl;
      once = λ _ _. refl;
      on_time = λ _ _. tt;
    };
  }
    where
      small : (p c : ℕ) → AllByRecursion (λ (x : Frame). x.octets ≤ 1522) (get_or (replicate 7 []) c [])
      small p zero = tt
      small p (suc zero) = tt
      small p (suc (suc zero)) = tt
      small p (suc (suc (suc zero))) = tt
      small p (suc (suc (suc (suc zero)))) = tt
      small p (suc (suc (suc (suc (suc zero))))) = tt
      small p (suc (suc (suc (suc (suc (suc zero)))))) = tt
      small p (suc (suc (suc (suc (suc (suc (suc c))))))) = tt
