-- Document 01's number and values for each case of the answer.
use Rattle.octets.specs.Reading.{number_of, place_of}
use Rattle.framing.specs.declared.Whole.{Whole}
use Rattle.framing.specs.Answer as Framing
use Rattle.chunked.specs.declared.Answer.{Answer}

abbrev pub verdict : Answer → Framing.Answer Whole
verdict (Answer.Whole w) = Framing.whole w
verdict Answer.More = Framing.more
verdict (Answer.Refused r) = Framing.refused (number_of r) (place_of r)
