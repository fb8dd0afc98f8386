-- The circuit on a sheet that is read: its lists are parts of the codes. Assumes nothing.
use Rattle.std.specs.Prelude.{ℕ, ◌+◌, ◌*◌, ◌/◌, List, [], ◌∷◌, length, take, drop}
use Rattle.lit.specs.Code.{is_odd, variable}
use Rattle.circuit.specs.declared.CircuitRecord.{CircuitRecord}
use Rattle.circuit.specs.Circuit.{Circuit}
use Rattle.circuit.specs.Outcome.{gates_of, zeros}
use Rattle.sheet_read.specs.Sheet.{top_of, input_count, latch_count, gate_count, root_counts, flags_of}

-- of latches, state and next in turn: the states, and the nexts
abbrev pub states_of : List ℕ → List ℕ
states_of [] = []
states_of (s ∷ []) = []
states_of (s ∷ n ∷ rest) = s ∷ states_of rest

abbrev pub nexts_of : List ℕ → List ℕ
nexts_of [] = []
nexts_of (s ∷ []) = []
nexts_of (s ∷ n ∷ rest) = n ∷ nexts_of rest

-- the parts of the codes: inputs, gates, latches, roots
abbrev pub input_codes : List ℕ → List ℕ → List ℕ
input_codes h cs = take (input_count h) cs

abbrev pub gate_words : List ℕ → List ℕ → List ℕ
gate_words h cs = take (3 * gate_count h) (drop (input_count h) cs)

abbrev pub latch_words : List ℕ → List ℕ → List ℕ
latch_words h cs = take (2 * latch_count h) (drop (input_count h + 3 * gate_count h) cs)

abbrev pub root_codes : List ℕ → List ℕ → List ℕ
root_codes h cs = drop (input_count h + 3 * gate_count h + 2 * latch_count h) cs

-- the circuit but for its lists; the flags are trim 1, hash 2, fold 4
abbrev pub record_on : List ℕ → CircuitRecord
record_on h =
    record {
      top = variable (top_of h);
      counts = root_counts h;
      trim = is_odd (flags_of h);
      hash = is_odd (flags_of h / 2);
      fold = is_odd (flags_of h / 4);
    }

-- the circuit of a header and codes, however big a code is; a sheet has no resets, so each latch's is 0
unfoldable pub circuit_on : List ℕ → List ℕ → Circuit
circuit_on h cs =
    record {
      top = top_of h;
      inputs = input_codes h cs;
      states = states_of (latch_words h cs);
      nexts = nexts_of (latch_words h cs);
      resets = zeros (length (states_of (latch_words h cs)));
      gates = gates_of (gate_words h cs);
      counts = root_counts h;
      roots = root_codes h cs;
      trim = (record_on h).trim;
      hash = (record_on h).hash;
      fold = (record_on h).fold;
    }
