-- `word` meets its contract: the part of the buffer from the place on is the word.
use Rattle.writing.proofs.Puts.{put_part}
use Rattle.writing.proofs.writer.Writer.word.Goals as goal

pub returns : goal.returns
returns c = put_part _ c.args.self.at c.args.word.now c.requires c.copy_from_slice.ensures.after
