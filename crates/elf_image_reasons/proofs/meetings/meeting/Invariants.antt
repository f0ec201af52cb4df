use Rattle.std.proofs.Common.{◌≡◌, ◌+◌, length}
use Rattle.elf_image_reasons.specs.Details.{meeting_from}
use Rattle.elf_image_reasons.proofs.meetings.meeting.Given as goal

abbrev pub invariant-loop-range : goal.invariant-loop-range
invariant-loop-range l = record {
  same : meeting_from l.number l.rest ≡ meeting_from 0 l.ranges;
  counted : l.number + length l.rest ≡ length l.ranges;
}

abbrev pub decreases-loop-range : goal.decreases-loop-range
decreases-loop-range l = length l.rest
