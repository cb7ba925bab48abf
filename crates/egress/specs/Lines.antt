-- The lines at a port.
use Rattle.std.specs.Prelude.{ℕ, List}
use Rattle.egress.specs.declared.ordinary.Frame.{Frame}
use Rattle.egress.specs.declared.queue.Queue.{Queue}
use Rattle.egress.specs.Waiting.{waits}

-- the entries that wait in a queue, the first first
abbrev pub queued : {T : Type 0} {N : ℕ} → Queue T N → List T
queued q = waits q.slots q.line

-- a line of flow numbers
abbrev pub FlowLine : Type 0
FlowLine = Queue ℕ 16

-- a line of frames
abbrev pub FrameLine : Type 0
FrameLine = Queue Frame 8

-- the flow numbers that wait, the first first
abbrev pub flows : FlowLine → List ℕ
flows q = queued q

-- the frames that wait, the first first
abbrev pub frames : FrameLine → List Frame
frames q = queued q
