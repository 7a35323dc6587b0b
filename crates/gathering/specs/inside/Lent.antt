-- Loud frames that a struct of references lends. No promise names it. Definitions only.
use Rattle.gathering.specs.Gather.{Heard, heard}
use Rattle.gathering.specs.declared.frames.LentFrames.{LentFrames}

-- what the references refer to
abbrev pub frames_lent : LentFrames → Heard
frames_lent f = heard f.count f.centres.now f.values.now
