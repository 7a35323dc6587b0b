-- The other clauses follow from the first: demand 3 holds of the definition, and so does the sum of the counts.
use mathlib.Core.Path.{◌≡◌, sym, subst}
use Rattle.calls.specs.Call.{Call, Typed}
use Rattle.rooms.specs.Lent.{Lent}
use Rattle.loud_frames.specs.Loud.{AnalyseOutcome}
use Rattle.analysis.specs.Analyse.{analysed}
use Rattle.analysis.specs.Demand.{DemandThree, WindowsCounted}
use Rattle.analysis.proofs.Demand.{analysis-keeps}
use Rattle.analysis.proofs.Counted.{analysis-counts}
use Rattle.ulyptesh.specs.Analysis.{Promised}

pub promised : (c : Call) (lent : Lent) {o : AnalyseOutcome} → Typed c.settings → o ≡ analysed c lent → Promised c lent o
promised c lent typed e =
    record { outcome_is = e; demand_three = subst (DemandThree c) (sym e) (analysis-keeps c lent typed); windows_counted = subst WindowsCounted (sym e) (analysis-counts c lent) }
