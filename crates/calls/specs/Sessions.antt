-- What each call of a scenario replies, and what stands after it.
use Rattle.std.specs.Prelude.{◌≡◌, ℕ, cond, ◌⊎◌, List, map, Some, None, Ok, Err, vec_items, Option, Result, Vec, nat_lt}
use Rattle.std.specs.declared.alloc.Global.{Global}
use Rattle.schedule.specs.declared.draft.Draft.{Draft}
use Rattle.schedule.specs.declared.checked.CheckedPlan.{CheckedPlan}
use Rattle.schedule.specs.declared.tables.Window.{Window}
use Rattle.schedule.specs.declared.refusal.Fault.{Fault}
use Rattle.schedule.specs.declared.refusal.OpenRefusal.{OpenRefusal}
use Rattle.schedule.specs.declared.refusal.FlowRefusal.{FlowRefusal}
use Rattle.schedule.specs.declared.refusal.CertificateRefusal.TheVariants.{AbsentFlow}
use Rattle.gates.specs.declared.refusal.GateRefusal.{GateRefusal}
use Rattle.schedule.specs.Plan.{certificate_of, flow_count, windows_of}
use Rattle.schedule.specs.Drafts.{plan_of, Opens, Adds}
use Rattle.schedule.specs.Placing.{Places}
use Rattle.schedule.specs.Checks.{checked_plan, Checks}
use Rattle.gates.specs.declared.list.GateList.{GateList}
use Rattle.gates.specs.Makes.{Makes}
use Rattle.scenario.specs.Lines.{Asked, opens, places, adds, checks, certifies, shows_gates}
use Rattle.calls.specs.declared.session.Session.{Session}
use Rattle.calls.specs.declared.refusal.Missing.TheVariants as Missing
use Rattle.calls.specs.declared.refusal.Refusal.{Refusal}
use Rattle.calls.specs.Refusals.{open_refusal, gate_refusal}
use Rattle.calls.specs.declared.reply.Reply.{Reply}
use Rattle.calls.specs.declared.reply.Reply.TheVariants.{Opened, Placed, Added, Checked, Certificate, Gates}

-- nothing is in hand
abbrev pub fresh : Session
fresh = record { draft = None; plan = None }

-- the session with another draft
abbrev pub with_draft : Session → Draft → Session
with_draft s d = record { draft = Some d; plan = s.plan }

-- opening makes a draft in the place of the one before; refused, or without memory, it alters nothing
abbrev pub OpensSession : Session → ℕ → ℕ → ℕ → List ℕ → Result Reply Refusal → Session → Type 0
OpensSession s cycle error extension delays (Ok y) after = (d : Draft) × Opens cycle error extension delays (Ok d) × (y ≡ Opened) × (after ≡ with_draft s d)
OpensSession s cycle error extension delays (Err n) after = (x : OpenRefusal) × Opens cycle error extension delays (Err x) × (n ≡ open_refusal x) × (after ≡ s)

-- the offset of a window
abbrev pub offset_in : Window → ℕ
offset_in w = w.offset

-- placing in the draft in hand replies the offsets that the flow has got; without memory it alters nothing
abbrev pub PlacesIn : Option Draft → Session → ℕ → ℕ → ℕ → List ℕ → Result Reply Refusal → Session → Type 0
PlacesIn None s release octets deadline route r after = (r ≡ Err (Refusal.OutOfOrder Missing.Draft)) × (after ≡ s)
PlacesIn (Some d) s release octets deadline route (Ok y) after =
    (f : ℕ) × (e : Draft) × (v : Vec ℕ Global) × Places d release octets deadline route (Ok f) e × (vec_items v ≡ map offset_in (windows_of (plan_of e) f)) × (y ≡ Placed f v) × (after ≡ with_draft s e)
PlacesIn (Some d) s release octets deadline route (Err n) after =
    ((x : FlowRefusal) × (e : Draft) × Places d release octets deadline route (Err x) e × (n ≡ Refusal.Flow x) × (after ≡ with_draft s e))
    ⊎ ((n ≡ Refusal.OutOfMemory) × (after ≡ s))

-- adding to the draft in hand
abbrev pub AddsTo : Option Draft → Session → ℕ → ℕ → ℕ → List ℕ → List ℕ → Result Reply Refusal → Session → Type 0
AddsTo None s release octets deadline route offsets r after = (r ≡ Err (Refusal.OutOfOrder Missing.Draft)) × (after ≡ s)
AddsTo (Some d) s release octets deadline route offsets (Ok y) after = (f : ℕ) × (e : Draft) × Adds d release octets deadline route offsets (Ok f) e × (y ≡ Added f) × (after ≡ with_draft s e)
AddsTo (Some d) s release octets deadline route offsets (Err n) after = (x : FlowRefusal) × Adds d release octets deadline route offsets (Err x) d × (n ≡ Refusal.Flow x) × (after ≡ s)

-- the check uses the draft in hand up and makes it the checked plan, in the place of the one before; refused, it alters nothing
abbrev pub ChecksOf : Option Draft → Session → Result Reply Refusal → Session → Type 0
ChecksOf None s r after = (r ≡ Err (Refusal.OutOfOrder Missing.Draft)) × (after ≡ s)
ChecksOf (Some d) s (Ok y) after = (p : CheckedPlan) × Checks d (Ok p) × (y ≡ Checked) × (after ≡ record { draft = None; plan = Some p })
ChecksOf (Some d) s (Err n) after = (x : Fault) × Checks d (Err (x, d)) × (n ≡ Refusal.Faulty x) × (after ≡ s)

-- the certificate of a flow of the checked plan
abbrev pub certificate_reply : Option CheckedPlan → ℕ → Result Reply Refusal
certificate_reply None f = Err (Refusal.OutOfOrder Missing.CheckedPlan)
certificate_reply (Some p) f = cond (nat_lt f (flow_count (checked_plan p))) (Ok (Certificate (certificate_of (checked_plan p) f).0 (certificate_of (checked_plan p) f).1)) (Err (Refusal.Certificate AbsentFlow))

-- the gate list of a port of the checked plan
abbrev pub GatesOf : Option CheckedPlan → ℕ → Result Reply Refusal → Type 0
GatesOf None p r = r ≡ Err (Refusal.OutOfOrder Missing.CheckedPlan)
GatesOf (Some q) p (Ok y) = (l : GateList) × Makes (checked_plan q) p (Ok l) × (y ≡ Gates l)
GatesOf (Some q) p (Err n) = (x : GateRefusal) × Makes (checked_plan q) p (Err x) × (n ≡ gate_refusal x)

-- one call: its reply or why it is refused, and what stands after it
abbrev pub Performs : Session → Asked → Result Reply Refusal → Session → Type 0
Performs s (opens cycle error extension delays) r after = OpensSession s cycle error extension delays r after
Performs s (places release octets deadline route) r after = PlacesIn s.draft s release octets deadline route r after
Performs s (adds release octets deadline route offsets) r after = AddsTo s.draft s release octets deadline route offsets r after
Performs s checks r after = ChecksOf s.draft s r after
Performs s (certifies f) r after = (r ≡ certificate_reply s.plan f) × (after ≡ s)
Performs s (shows_gates p) r after = GatesOf s.plan p r × (after ≡ s)
