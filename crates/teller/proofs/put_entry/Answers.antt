-- `put_entry` goes on by a line of three fields at most.
use Rattle.text.proofs.TextLaws.{added_length}
use Rattle.text.proofs.LineLaws.{line_place}
use Rattle.teller.proofs.put_entry.Goals as goal

pub returns-clause-room : goal.returns-clause-room
returns-clause-room c = (added_length c.put_line.ensures, line_place _ _ c.put_line.ensures)
