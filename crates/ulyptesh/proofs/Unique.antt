-- Each promise is an equality, so it allows one outcome.
use mathlib.Core.Path.{sym, ◌∙◌}
use Rattle.ulyptesh.specs.Unique.{ScoresUnique, KeyUnique, KeyNameUnique, CardUnique, PackedCardUnique, ReadUnique, AddUnique, RemoveUnique, FramesUnique, AnalyseUnique, AbiUnique}

pub scores-unique : ScoresUnique
scores-unique chroma places a b p q = p ∙ sym q

pub key-unique : KeyUnique
key-unique chroma a b p q = p ∙ sym q

pub key-name-unique : KeyNameUnique
key-name-unique number bytes a b p q = p ∙ sym q

pub card_unique : CardUnique
card_unique analysis bytes a b p q = p ∙ sym q

pub packed-card-unique : PackedCardUnique
packed-card-unique header rows bytes a b p q = p ∙ sym q

pub read-unique : ReadUnique
read-unique bytes rows a b p q = p ∙ sym q

pub add-unique : AddUnique
add-unique card s a b p q = p ∙ sym q

pub remove-unique : RemoveUnique
remove-unique card s a b p q = p ∙ sym q

pub frames-unique : FramesUnique
frames-unique c lent a b p q = p ∙ sym q

pub analyse-unique : AnalyseUnique
analyse-unique c lent a b p q = p.outcome_is ∙ sym q.outcome_is

pub abi-unique : AbiUnique
abi-unique a b p q = p ∙ sym q
