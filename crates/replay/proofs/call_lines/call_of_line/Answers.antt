use Rattle.std.proofs.Common.{sym}
use Rattle.replay.proofs.Worded.{no_text, worded}
use Rattle.replay.proofs.call_lines.call_of_line.Goals as goal

pub returns-in_default : goal.returns-in_default
returns-in_default c = no_text c.args.line.now c.in_default.ensures.cases.0

pub returns-in-Some : goal.returns-in-Some
returns-in-Some c = rw (worded c.args.line.now c.in-Ok.text.now c.deref.result.now c.in-Some.word.now c.in-Some.more.now c.in-Ok.ensures.cases.0 c.in-Ok.ensures.cases.1 (rw (sym c.deref.ensures.value) at c.in_ok-words.ensures) c.in-Some.ensures.cases.0) at c.call_of_words.ensures
