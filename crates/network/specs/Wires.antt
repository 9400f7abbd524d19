-- What a wire holds.
use Rattle.std.specs.Prelude.{vec_items}
use Rattle.model.specs.Requests.{Contents}
use Rattle.network.specs.Networks.{network_of}
use Rattle.network.specs.declared.wire.Wire.{Wire}

abbrev pub wire_contents : Wire → Contents
wire_contents w = network_of w.place w.sent w.total (vec_items w.arrivals)
