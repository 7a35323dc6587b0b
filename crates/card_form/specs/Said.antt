-- What a header and n segments say, segment i read from anywhere. Definitions only.
use Rattle.std.specs.Prelude.{ℕ}
use Rattle.laws.specs.Front.{list}
use Rattle.card.specs.Layout.{Meaning}
use Rattle.card.specs.declared.layout.Header.{Header}
use Rattle.card.specs.declared.layout.Segment.{Segment}

abbrev pub card_said : Header → (ℕ → Segment) → ℕ → Meaning
card_said h at n = record { header = h; segments = list at n }
