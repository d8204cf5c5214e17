use Rattle.bitmaps.specs.Maps.{map_of}
use Rattle.bitmaps.proofs.Returns.{returned, sixteen, two_back}
use Rattle.bitmaps.proofs.maps_return.Goals as goal

pub returns : goal.returns
returns c = λ n is small up. (returned n is small up, two_back (map_of is) (sixteen n is small up))
