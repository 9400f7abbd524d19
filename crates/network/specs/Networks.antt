-- The network class: what its requests do to a place in the arrivals and to the counters of what was sent.
use Rattle.std.specs.Prelude.{ℕ, ◌+◌, ◌%◌, ◌^◌, Bool, true, false, cond, ◌&&◌, List, [], ◌∷◌, length, drop, is_some, Some, None, sum, Option, ◌==◌, nat_le, slice_index}
use Rattle.model.specs.Requests.{Contents, Outcome, untouched, counts}
use Rattle.model.specs.Kinds.{takes_of, declared_of}
use Rattle.model.specs.Rules.{Rules, between}
use Rattle.model.specs.declared.setting.SettingRange.{SettingRange}
use Rattle.network.specs.declared.op.NetworkOp.{NetworkOp}
use Rattle.network.specs.declared.op.NetworkOp.TheVariants.{Send, Receive, Counters}
use Rattle.arrivals.specs.Frames.{Found, next_frame}

-- the number of each kind of request
abbrev pub kind_of : NetworkOp → ℕ
kind_of Send = 1
kind_of Receive = 2
kind_of Counters = 3

-- the kind of request that a number stands for
abbrev pub op_of : ℕ → Option NetworkOp
op_of k = cond (k == 1) (Some Send) (cond (k == 2) (Some Receive) (cond (k == 3) (Some Counters) None))

-- the payload lengths of each kind: a frame, or nothing
abbrev pub takes : NetworkOp → ℕ → Bool
takes Send n = nat_le 14 n && nat_le n 1514
takes Receive n = n == 0
takes Counters n = n == 0

-- only the counters can be asked for twice to the same effect
abbrev pub declared : NetworkOp → Bool
declared Send = false
declared Receive = false
declared Counters = true

-- a place in the arrivals, n frames sent, and t the sum of all bytes sent
abbrev pub network_of : ℕ → ℕ → ℕ → List ℕ → Contents
network_of place n t arrivals = record { counters = place ∷ n ∷ t ∷ []; memory = arrivals }

abbrev pub place_in : Contents → ℕ
place_in x = slice_index x.counters 0

abbrev pub sent_in : Contents → ℕ
sent_in x = slice_index x.counters 1

abbrev pub total_in : Contents → ℕ
total_in x = slice_index x.counters 2

-- the next frame at the place
abbrev pub found_in : ℕ → Contents → Found
found_in level x = next_frame level (drop (place_in x) x.memory)

-- what each kind of request comes to
abbrev pub act : Option NetworkOp → Contents → ℕ → List ℕ → Outcome
act None x level payload = untouched x
act (Some Send) x level payload =
    record { contents = network_of (place_in x) ((sent_in x + 1) % 2 ^ 32) ((total_in x + sum payload) % 2 ^ 32) x.memory; answer = [] }
act (Some Receive) x level payload =
    record { contents = network_of (place_in x + (found_in level x).moved) (sent_in x) (total_in x) x.memory; answer = (found_in level x).frame }
act (Some Counters) x level payload = record { contents = x; answer = counts (sent_in x) (total_in x) }

-- group frames, longest frame and moderation
abbrev pub network_settings : List SettingRange
network_settings = record { initial = 0; greatest = 1 } ∷ record { initial = 1514; greatest = 1514 } ∷ record { initial = 0; greatest = 1000 } ∷ []

abbrev pub network_rules : Rules
network_rules = record {
  settings = network_settings;
  name = between 3758096384 4026531839;
  limit = 24;
  longest = 1514;
  kind = λ k. is_some (op_of k);
  takes = λ k n. takes_of takes (op_of k) n;
  declared = λ k. declared_of declared (op_of k);
  holds = λ reach x. (reach == 1) && (length x.counters == 3 && nat_le (place_in x) (length x.memory));
  perform = λ x level k a payload. act (op_of k) x level payload;
}
