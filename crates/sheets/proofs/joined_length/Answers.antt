-- The sum of a list is that of its first entries, all of them.
use Rattle.std.proofs.Common.{◌≡◌, ◌∙◌, sum, rules}
use Rattle.sheets.proofs.Joined.{sum-joined}
use Rattle.sheets.proofs.joined_length.Goals as goal

pub returns : goal.returns
returns c = let e : c.sum.result ≡ sum c.args.lengths.now = search rules in e ∙ sum-joined c.args.lengths.now
