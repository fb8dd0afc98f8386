-- The room's length, by the law of `Filled`.
use Rattle.answers.proofs.Filled.{filled}
use Rattle.answers.proofs.questions_room.Goals as goal

pub returns : goal.returns
returns c = filled 1048576 0
