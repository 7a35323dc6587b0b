-- What putting a card needs. No promise names it. Definitions only.
use Rattle.std.specs.Prelude.{◌≡◌, false, List, ℕ, ◌+◌, ◌-◌, ◌*◌, ◌%◌, ◌<◌, ◌≤◌, length}
use Rattle.laws.specs.Front.{list}
use Rattle.bits.specs.inside.Pens.{PenReady, bit_count}
use Rattle.bits.specs.declared.pen.Pen.{Pen}
use Rattle.card.specs.Layout.{Meaning, LayoutFits, HeaderFits, SegmentFits}
use Rattle.card.specs.Rules.{card_broken}
use Rattle.card.specs.declared.layout.Layout.{Layout}
use Rattle.card.specs.declared.layout.Header.{Header}
use Rattle.card.specs.declared.layout.Segment.{Segment}
use Rattle.card_form.specs.Form.{header_width, segment_width, card_size}

-- a header whose numbers fit, and room for it
pub record CanStart (bytes : List ℕ) (l : Layout) (h : Header) (count : ℕ) : Type 0 where
  pub layout : LayoutFits l
  pub fits : HeaderFits l h count
  pub room : header_width l ≤ length bytes * 8

-- a segment whose numbers fit, and a pen with room for it
pub record CanPutSegment (bytes : List ℕ) (pen : Pen) (l : Layout) (s : Segment) : Type 0 where
  pub ready : PenReady pen
  pub layout : LayoutFits l
  pub fits : SegmentFits l s
  pub room : bit_count pen + segment_width l ≤ length bytes * 8

-- a pen that stands within the bytes
pub record CanEnd (bytes : List ℕ) (pen : Pen) : Type 0 where
  pub ready : PenReady pen
  pub room : bit_count pen ≤ length bytes * 8

-- how many bits fill the pen's last byte
abbrev pub filler_width : Pen → ℕ
filler_width pen = (8 - pen.count) % 8

-- n segments that fit, segment i read from anywhere, and a pen with room for them
pub record CanPutSegments (bytes : List ℕ) (pen : Pen) (l : Layout) (at : ℕ → Segment) (n : ℕ) : Type 0 where
  pub ready : PenReady pen
  pub layout : LayoutFits l
  pub fit : (i : ℕ) → i < n → SegmentFits l (at i)
  pub room : bit_count pen + n * segment_width l ≤ length bytes * 8

-- what a header and n segments say
abbrev pub saying : Header → (ℕ → Segment) → ℕ → Meaning
saying h at n = record { header = h; segments = list at n }

-- a card that breaks no rule, and bytes for it
pub record CanWrite (bytes : List ℕ) (l : Layout) (h : Header) (at : ℕ → Segment) (n : ℕ) : Type 0 where
  pub layout : LayoutFits l
  pub good : card_broken l (saying h at n) ≡ false
  pub room : card_size l n ≤ length bytes
