-- How replies and refusals are written.
use Rattle.std.specs.Prelude.{ℕ, Some, None, List, ◌++◌, vec_items, codes, Option}
use Rattle.std.specs.List.{flat_map}
use Rattle.std.specs.Fmt.{decimal}
use Rattle.schedule.specs.Numbers.{fault_number, fault_place}
use Rattle.gates.specs.Texts.{list_text}
use Rattle.calls.specs.Refusals.{refusal_number}
use Rattle.calls.specs.declared.refusal.Missing.{Missing}
use Rattle.calls.specs.declared.refusal.Refusal.{Refusal}
use Rattle.calls.specs.declared.refusal.Refusal.TheVariants.{Open, Flow, Certificate, Gates, Faulty, OutOfOrder, OutOfMemory}
use Rattle.calls.specs.declared.reply.Reply.{Reply}

-- a number behind a blank
abbrev pub next_number : ℕ → List ℕ
next_number n = codes " " ++ decimal n

-- offsets, each behind a blank
abbrev pub offsets_text : List ℕ → List ℕ
offsets_text os = flat_map next_number os

-- a reply
abbrev pub reply_text : Reply → List ℕ
reply_text Reply.Opened = codes "opened"
reply_text (Reply.Placed f os) = codes "placed " ++ decimal f ++ codes " offsets" ++ offsets_text (vec_items os)
reply_text (Reply.Added f) = codes "added " ++ decimal f
reply_text Reply.Checked = codes "checked"
reply_text (Reply.Certificate l g) = codes "certificate " ++ decimal l ++ codes " " ++ decimal g
reply_text (Reply.Gates l) = codes "gates " ++ list_text (vec_items l.entries)

-- what is missing
abbrev pub missing_text : Missing → List ℕ
missing_text Missing.Draft = codes "no draft"
missing_text Missing.CheckedPlan = codes "no checked plan"

-- the number of a refusal, if it has one
abbrev pub numbered : Option ℕ → List ℕ
numbered None = codes "out of memory"
numbered (Some n) = codes "refused " ++ decimal n

-- a refusal
abbrev pub refusal_text : Refusal → List ℕ
refusal_text (Open x) = numbered (refusal_number (Open x))
refusal_text (Flow x) = numbered (refusal_number (Flow x))
refusal_text (Certificate x) = numbered (refusal_number (Certificate x))
refusal_text (Gates x) = numbered (refusal_number (Gates x))
refusal_text (Faulty x) = codes "refused " ++ decimal (fault_number x) ++ codes " flow " ++ decimal (fault_place x).0 ++ codes " hop " ++ decimal (fault_place x).1
refusal_text (OutOfOrder m) = codes "out of order: " ++ missing_text m
refusal_text OutOfMemory = codes "out of memory"
