-- The promise of `ulyptesh_analyse`, in three clauses.
use Rattle.std.specs.Prelude.{◌≡◌}
use Rattle.calls.specs.Call.{Call}
use Rattle.rooms.specs.Lent.{Lent}
use Rattle.loud_frames.specs.Loud.{AnalyseOutcome}
use Rattle.analysis.specs.Analyse.{analysed}
use Rattle.analysis.specs.Demand.{DemandThree, WindowsCounted}

-- the answer and all that was lent are what one definition makes of the call and of what was lent; demand 3 holds of them; and the segments' counts sum to the estimates
pub record Promised (c : Call) (lent : Lent) (o : AnalyseOutcome) : Type 0 where
  pub outcome_is : o ≡ analysed c lent
  pub demand_three : DemandThree c o
  pub windows_counted : WindowsCounted o
