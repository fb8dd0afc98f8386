-- Every row of the table of texts, with the answer: 0 and the bytes used, or the number of the refusal and its place. The lists are long enough.
-- Each row is the text in words, its bytes, the answer. Assumes nothing.
use mathlib.Core.Path.{◌≡◌, refl}
use mathlib.Core.List.{[], ◌∷◌}
use Rattle.token.specs.Format.{digits_of}
use Rattle.token.specs.Answer.{digits_at, uint_at, header_field_at, lit_at}
use Rattle.lines.specs.Lines.{is_byte, byte_at, tag_at, number_at, line_at, lines_at, reset_line_at, reset_at, latch_at}
use Rattle.lines.specs.Sections.{count_at, others_at, counts_at, header_at, root_room_at, properties_at, sizes_at, roots_at}
use Rattle.binary.specs.Table.{answer}
use Rattle.ascii_lines.specs.Lines.{defined_at, input_at, inputs_at, stated_at, latches_at, input_pair_at, gate_at, gates_at}
use Rattle.ascii.specs.Table.{told, roomy}
use Rattle.ascii.specs.Text.{sized_at, lists_at, body_at, read_text}

pub table :
    -- no byte
    (told (read_text ([]) roomy) ≡ answer 18 0)
    -- aa
    × (told (read_text (97 ∷ 97 ∷ []) roomy) ≡ answer 18 0)
    -- aig 0 0 0 0 0\n
    × (told (read_text (97 ∷ 105 ∷ 103 ∷ 32 ∷ 48 ∷ 32 ∷ 48 ∷ 32 ∷ 48 ∷ 32 ∷ 48 ∷ 32 ∷ 48 ∷ 10 ∷ []) roomy) ≡ answer 18 0)
    -- aag
    × (told (read_text (97 ∷ 97 ∷ 103 ∷ []) roomy) ≡ answer 18 3)
    -- aags
    × (told (read_text (97 ∷ 97 ∷ 103 ∷ 115 ∷ []) roomy) ≡ answer 18 3)
    -- aag 0 0 0 0\n
    × (told (read_text (97 ∷ 97 ∷ 103 ∷ 32 ∷ 48 ∷ 32 ∷ 48 ∷ 32 ∷ 48 ∷ 32 ∷ 48 ∷ 10 ∷ []) roomy) ≡ answer 18 11)
    -- aag 0 0 0 0 0
    × (told (read_text (97 ∷ 97 ∷ 103 ∷ 32 ∷ 48 ∷ 32 ∷ 48 ∷ 32 ∷ 48 ∷ 32 ∷ 48 ∷ 32 ∷ 48 ∷ []) roomy) ≡ answer 18 13)
    -- aag 0 0 0 0 0\n
    × (told (read_text (97 ∷ 97 ∷ 103 ∷ 32 ∷ 48 ∷ 32 ∷ 48 ∷ 32 ∷ 48 ∷ 32 ∷ 48 ∷ 32 ∷ 48 ∷ 10 ∷ []) roomy) ≡ answer 0 14)
    -- aag 0 0 0 0 0\r\n
    × (told (read_text (97 ∷ 97 ∷ 103 ∷ 32 ∷ 48 ∷ 32 ∷ 48 ∷ 32 ∷ 48 ∷ 32 ∷ 48 ∷ 32 ∷ 48 ∷ 13 ∷ 10 ∷ []) roomy) ≡ answer 18 13)
    -- aag  0 0 0 0 0\n
    × (told (read_text (97 ∷ 97 ∷ 103 ∷ 32 ∷ 32 ∷ 48 ∷ 32 ∷ 48 ∷ 32 ∷ 48 ∷ 32 ∷ 48 ∷ 32 ∷ 48 ∷ 10 ∷ []) roomy) ≡ answer 10 4)
    -- aag 0 0 0 0 0 \n
    × (told (read_text (97 ∷ 97 ∷ 103 ∷ 32 ∷ 48 ∷ 32 ∷ 48 ∷ 32 ∷ 48 ∷ 32 ∷ 48 ∷ 32 ∷ 48 ∷ 32 ∷ 10 ∷ []) roomy) ≡ answer 10 14)
    -- aag 0 0 0 0 0 0 0 0 0\n
    × (told (read_text (97 ∷ 97 ∷ 103 ∷ 32 ∷ 48 ∷ 32 ∷ 48 ∷ 32 ∷ 48 ∷ 32 ∷ 48 ∷ 32 ∷ 48 ∷ 32 ∷ 48 ∷ 32 ∷ 48 ∷ 32 ∷ 48 ∷ 32 ∷ 48 ∷ 10 ∷
    []) roomy) ≡ answer 0 22)
    -- aag 0 0 0 0 0 0 0 0 0 0\n
    × (told (read_text (97 ∷ 97 ∷ 103 ∷ 32 ∷ 48 ∷ 32 ∷ 48 ∷ 32 ∷ 48 ∷ 32 ∷ 48 ∷ 32 ∷ 48 ∷ 32 ∷ 48 ∷ 32 ∷ 48 ∷ 32 ∷ 48 ∷ 32 ∷ 48 ∷ 32 ∷ 48 ∷ 10 ∷
    []) roomy) ≡ answer 18 21)
    -- aag 1048575 0 0 0 0\n
    × (told (read_text (97 ∷ 97 ∷ 103 ∷ 32 ∷ 49 ∷ 48 ∷ 52 ∷ 56 ∷ 53 ∷ 55 ∷ 53 ∷ 32 ∷ 48 ∷ 32 ∷ 48 ∷ 32 ∷ 48 ∷ 32 ∷ 48 ∷ 10 ∷ []) roomy) ≡ answer 0 20)
    -- aag 1048576 0 0 0 0\n
    × (told (read_text (97 ∷ 97 ∷ 103 ∷ 32 ∷ 49 ∷ 48 ∷ 52 ∷ 56 ∷ 53 ∷ 55 ∷ 54 ∷ 32 ∷ 48 ∷ 32 ∷ 48 ∷ 32 ∷ 48 ∷ 32 ∷ 48 ∷ 10 ∷ []) roomy) ≡ answer 12 4)
    -- aag 18446744073709551616 0 0 0 0\n
    × (told (read_text (97 ∷ 97 ∷ 103 ∷ 32 ∷ 49 ∷ 56 ∷ 52 ∷ 52 ∷ 54 ∷ 55 ∷ 52 ∷ 52 ∷ 48 ∷ 55 ∷ 51 ∷ 55 ∷ 48 ∷ 57 ∷ 53 ∷ 53 ∷ 49 ∷ 54 ∷ 49 ∷ 54 ∷ 32 ∷ 48 ∷
    32 ∷ 48 ∷ 32 ∷ 48 ∷ 32 ∷ 48 ∷ 10 ∷ []) roomy) ≡ answer 21 4)
    -- aag 018446744073709551616 0 0 0 0\n
    × (told (read_text (97 ∷ 97 ∷ 103 ∷ 32 ∷ 48 ∷ 49 ∷ 56 ∷ 52 ∷ 52 ∷ 54 ∷ 55 ∷ 52 ∷ 52 ∷ 48 ∷ 55 ∷ 51 ∷ 55 ∷ 48 ∷ 57 ∷ 53 ∷ 53 ∷ 49 ∷ 54 ∷ 49 ∷ 54 ∷ 32 ∷
    48 ∷ 32 ∷ 48 ∷ 32 ∷ 48 ∷ 32 ∷ 48 ∷ 10 ∷ []) roomy) ≡ answer 11 4)
    -- aag 1 2 0 0 0\n
    × (told (read_text (97 ∷ 97 ∷ 103 ∷ 32 ∷ 49 ∷ 32 ∷ 50 ∷ 32 ∷ 48 ∷ 32 ∷ 48 ∷ 32 ∷ 48 ∷ 10 ∷ []) roomy) ≡ answer 12 6)
    -- aag 1 1 0 0 1\n
    × (told (read_text (97 ∷ 97 ∷ 103 ∷ 32 ∷ 49 ∷ 32 ∷ 49 ∷ 32 ∷ 48 ∷ 32 ∷ 48 ∷ 32 ∷ 49 ∷ 10 ∷ []) roomy) ≡ answer 12 12)
    -- aag 1 1 0 0 0\n5\n
    × (told (read_text (97 ∷ 97 ∷ 103 ∷ 32 ∷ 49 ∷ 32 ∷ 49 ∷ 32 ∷ 48 ∷ 32 ∷ 48 ∷ 32 ∷ 48 ∷ 10 ∷ 53 ∷ 10 ∷ []) roomy) ≡ answer 14 14)
    -- aag 1 1 0 0 0\n4\n
    × (told (read_text (97 ∷ 97 ∷ 103 ∷ 32 ∷ 49 ∷ 32 ∷ 49 ∷ 32 ∷ 48 ∷ 32 ∷ 48 ∷ 32 ∷ 48 ∷ 10 ∷ 52 ∷ 10 ∷ []) roomy) ≡ answer 12 14)
    -- aag 1 1 0 0 0\n3\n
    × (told (read_text (97 ∷ 97 ∷ 103 ∷ 32 ∷ 49 ∷ 32 ∷ 49 ∷ 32 ∷ 48 ∷ 32 ∷ 48 ∷ 32 ∷ 48 ∷ 10 ∷ 51 ∷ 10 ∷ []) roomy) ≡ answer 14 14)
    -- aag 1 1 0 0 0\n2\n
    × (told (read_text (97 ∷ 97 ∷ 103 ∷ 32 ∷ 49 ∷ 32 ∷ 49 ∷ 32 ∷ 48 ∷ 32 ∷ 48 ∷ 32 ∷ 48 ∷ 10 ∷ 50 ∷ 10 ∷ []) roomy) ≡ answer 0 16)
    -- aag 1 1 0 0 0\n0\n
    × (told (read_text (97 ∷ 97 ∷ 103 ∷ 32 ∷ 49 ∷ 32 ∷ 49 ∷ 32 ∷ 48 ∷ 32 ∷ 48 ∷ 32 ∷ 48 ∷ 10 ∷ 48 ∷ 10 ∷ []) roomy) ≡ answer 13 14)
    -- aag 1 1 0 0 0\n02\n
    × (told (read_text (97 ∷ 97 ∷ 103 ∷ 32 ∷ 49 ∷ 32 ∷ 49 ∷ 32 ∷ 48 ∷ 32 ∷ 48 ∷ 32 ∷ 48 ∷ 10 ∷ 48 ∷ 50 ∷ 10 ∷ []) roomy) ≡ answer 11 14)
    -- aag 1 1 0 0 0\n\n
    × (told (read_text (97 ∷ 97 ∷ 103 ∷ 32 ∷ 49 ∷ 32 ∷ 49 ∷ 32 ∷ 48 ∷ 32 ∷ 48 ∷ 32 ∷ 48 ∷ 10 ∷ 10 ∷ []) roomy) ≡ answer 10 14)
    -- aag 1 1 0 0 0\n
    × (told (read_text (97 ∷ 97 ∷ 103 ∷ 32 ∷ 49 ∷ 32 ∷ 49 ∷ 32 ∷ 48 ∷ 32 ∷ 48 ∷ 32 ∷ 48 ∷ 10 ∷ []) roomy) ≡ answer 10 14)
    -- aag 1 1 0 0 0\n2
    × (told (read_text (97 ∷ 97 ∷ 103 ∷ 32 ∷ 49 ∷ 32 ∷ 49 ∷ 32 ∷ 48 ∷ 32 ∷ 48 ∷ 32 ∷ 48 ∷ 10 ∷ 50 ∷ []) roomy) ≡ answer 18 15)
    -- aag 1 1 0 0 0\n2\r\n
    × (told (read_text (97 ∷ 97 ∷ 103 ∷ 32 ∷ 49 ∷ 32 ∷ 49 ∷ 32 ∷ 48 ∷ 32 ∷ 48 ∷ 32 ∷ 48 ∷ 10 ∷ 50 ∷ 13 ∷ 10 ∷ []) roomy) ≡ answer 18 15)
    -- aag 2 2 0 0 0\n2\n2\n
    × (told (read_text (97 ∷ 97 ∷ 103 ∷ 32 ∷ 50 ∷ 32 ∷ 50 ∷ 32 ∷ 48 ∷ 32 ∷ 48 ∷ 32 ∷ 48 ∷ 10 ∷ 50 ∷ 10 ∷ 50 ∷ 10 ∷ []) roomy) ≡ answer 0 18)
    -- aag 7 1 0 0 0\n2\n
    × (told (read_text (97 ∷ 97 ∷ 103 ∷ 32 ∷ 55 ∷ 32 ∷ 49 ∷ 32 ∷ 48 ∷ 32 ∷ 48 ∷ 32 ∷ 48 ∷ 10 ∷ 50 ∷ 10 ∷ []) roomy) ≡ answer 0 16)
    -- aag 7 1 0 0 0\n14\n
    × (told (read_text (97 ∷ 97 ∷ 103 ∷ 32 ∷ 55 ∷ 32 ∷ 49 ∷ 32 ∷ 48 ∷ 32 ∷ 48 ∷ 32 ∷ 48 ∷ 10 ∷ 49 ∷ 52 ∷ 10 ∷ []) roomy) ≡ answer 0 17)
    -- aag 7 1 0 0 0\n16\n
    × (told (read_text (97 ∷ 97 ∷ 103 ∷ 32 ∷ 55 ∷ 32 ∷ 49 ∷ 32 ∷ 48 ∷ 32 ∷ 48 ∷ 32 ∷ 48 ∷ 10 ∷ 49 ∷ 54 ∷ 10 ∷ []) roomy) ≡ answer 12 14)
    -- aag 1 0 1 0 0\n2 3 2\n
    × (told (read_text (97 ∷ 97 ∷ 103 ∷ 32 ∷ 49 ∷ 32 ∷ 48 ∷ 32 ∷ 49 ∷ 32 ∷ 48 ∷ 32 ∷ 48 ∷ 10 ∷ 50 ∷ 32 ∷ 51 ∷ 32 ∷ 50 ∷ 10 ∷ []) roomy) ≡ answer 0 20)
    -- aag 1 0 1 0 0\n2 3 1\n
    × (told (read_text (97 ∷ 97 ∷ 103 ∷ 32 ∷ 49 ∷ 32 ∷ 48 ∷ 32 ∷ 49 ∷ 32 ∷ 48 ∷ 32 ∷ 48 ∷ 10 ∷ 50 ∷ 32 ∷ 51 ∷ 32 ∷ 49 ∷ 10 ∷ []) roomy) ≡ answer 0 20)
    -- aag 1 0 1 0 0\n2 3 0\n
    × (told (read_text (97 ∷ 97 ∷ 103 ∷ 32 ∷ 49 ∷ 32 ∷ 48 ∷ 32 ∷ 49 ∷ 32 ∷ 48 ∷ 32 ∷ 48 ∷ 10 ∷ 50 ∷ 32 ∷ 51 ∷ 32 ∷ 48 ∷ 10 ∷ []) roomy) ≡ answer 0 20)
    -- aag 1 0 1 0 0\n2 3\n
    × (told (read_text (97 ∷ 97 ∷ 103 ∷ 32 ∷ 49 ∷ 32 ∷ 48 ∷ 32 ∷ 49 ∷ 32 ∷ 48 ∷ 32 ∷ 48 ∷ 10 ∷ 50 ∷ 32 ∷ 51 ∷ 10 ∷ []) roomy) ≡ answer 0 18)
    -- aag 1 0 1 0 0\n3 3\n
    × (told (read_text (97 ∷ 97 ∷ 103 ∷ 32 ∷ 49 ∷ 32 ∷ 48 ∷ 32 ∷ 49 ∷ 32 ∷ 48 ∷ 32 ∷ 48 ∷ 10 ∷ 51 ∷ 32 ∷ 51 ∷ 10 ∷ []) roomy) ≡ answer 14 14)
    -- aag 2 1 1 0 0\n2\n4 2 3\n
    × (told (read_text (97 ∷ 97 ∷ 103 ∷ 32 ∷ 50 ∷ 32 ∷ 49 ∷ 32 ∷ 49 ∷ 32 ∷ 48 ∷ 32 ∷ 48 ∷ 10 ∷ 50 ∷ 10 ∷ 52 ∷ 32 ∷ 50 ∷ 32 ∷ 51 ∷ 10 ∷
    []) roomy) ≡ answer 22 20)
    -- aag 2 1 1 0 0\n2\n4 2 3
    × (told (read_text (97 ∷ 97 ∷ 103 ∷ 32 ∷ 50 ∷ 32 ∷ 49 ∷ 32 ∷ 49 ∷ 32 ∷ 48 ∷ 32 ∷ 48 ∷ 10 ∷ 50 ∷ 10 ∷ 52 ∷ 32 ∷ 50 ∷ 32 ∷ 51 ∷ []) roomy) ≡ answer 22 20)
    -- aag 2 1 1 0 0\n2\n4 2 6\n
    × (told (read_text (97 ∷ 97 ∷ 103 ∷ 32 ∷ 50 ∷ 32 ∷ 49 ∷ 32 ∷ 49 ∷ 32 ∷ 48 ∷ 32 ∷ 48 ∷ 10 ∷ 50 ∷ 10 ∷ 52 ∷ 32 ∷ 50 ∷ 32 ∷ 54 ∷ 10 ∷
    []) roomy) ≡ answer 12 20)
    -- aag 2 1 1 0 0\n2\n4 2 4
    × (told (read_text (97 ∷ 97 ∷ 103 ∷ 32 ∷ 50 ∷ 32 ∷ 49 ∷ 32 ∷ 49 ∷ 32 ∷ 48 ∷ 32 ∷ 48 ∷ 10 ∷ 50 ∷ 10 ∷ 52 ∷ 32 ∷ 50 ∷ 32 ∷ 52 ∷ []) roomy) ≡ answer 18 21)
    -- aag 2 1 1 0 0\n2\n4\n
    × (told (read_text (97 ∷ 97 ∷ 103 ∷ 32 ∷ 50 ∷ 32 ∷ 49 ∷ 32 ∷ 49 ∷ 32 ∷ 48 ∷ 32 ∷ 48 ∷ 10 ∷ 50 ∷ 10 ∷ 52 ∷ 10 ∷ []) roomy) ≡ answer 18 17)
    -- aag 0 0 0 1048576 0\n
    × (told (read_text (97 ∷ 97 ∷ 103 ∷ 32 ∷ 48 ∷ 32 ∷ 48 ∷ 32 ∷ 48 ∷ 32 ∷ 49 ∷ 48 ∷ 52 ∷ 56 ∷ 53 ∷ 55 ∷ 54 ∷ 32 ∷ 48 ∷ 10 ∷ []) roomy) ≡ answer 12 10)
    -- aag 0 0 0 1048575 0 1\n
    × (told (read_text (97 ∷ 97 ∷ 103 ∷ 32 ∷ 48 ∷ 32 ∷ 48 ∷ 32 ∷ 48 ∷ 32 ∷ 49 ∷ 48 ∷ 52 ∷ 56 ∷ 53 ∷ 55 ∷ 53 ∷ 32 ∷ 48 ∷ 32 ∷ 49 ∷ 10 ∷
    []) roomy) ≡ answer 10 22)
    -- aag 0 0 0 1 0\n1\n
    × (told (read_text (97 ∷ 97 ∷ 103 ∷ 32 ∷ 48 ∷ 32 ∷ 48 ∷ 32 ∷ 48 ∷ 32 ∷ 49 ∷ 32 ∷ 48 ∷ 10 ∷ 49 ∷ 10 ∷ []) roomy) ≡ answer 0 16)
    -- aag 0 0 0 1 0\n2\n
    × (told (read_text (97 ∷ 97 ∷ 103 ∷ 32 ∷ 48 ∷ 32 ∷ 48 ∷ 32 ∷ 48 ∷ 32 ∷ 49 ∷ 32 ∷ 48 ∷ 10 ∷ 50 ∷ 10 ∷ []) roomy) ≡ answer 12 14)
    -- aag 0 0 0 0 0 0 0 1\n1048576\n
    × (told (read_text (97 ∷ 97 ∷ 103 ∷ 32 ∷ 48 ∷ 32 ∷ 48 ∷ 32 ∷ 48 ∷ 32 ∷ 48 ∷ 32 ∷ 48 ∷ 32 ∷ 48 ∷ 32 ∷ 48 ∷ 32 ∷ 49 ∷ 10 ∷ 49 ∷ 48 ∷ 52 ∷ 56 ∷ 53 ∷ 55 ∷
    54 ∷ 10 ∷ []) roomy) ≡ answer 12 20)
    -- aag 0 0 0 0 0 0 0 2\n1048575\n1\n
    × (told (read_text (97 ∷ 97 ∷ 103 ∷ 32 ∷ 48 ∷ 32 ∷ 48 ∷ 32 ∷ 48 ∷ 32 ∷ 48 ∷ 32 ∷ 48 ∷ 32 ∷ 48 ∷ 32 ∷ 48 ∷ 32 ∷ 50 ∷ 10 ∷ 49 ∷ 48 ∷ 52 ∷ 56 ∷ 53 ∷ 55 ∷
    53 ∷ 10 ∷ 49 ∷ 10 ∷ []) roomy) ≡ answer 1 30)
    -- aag 0 0 0 0 0 0 0 1\n1048575\n
    × (told (read_text (97 ∷ 97 ∷ 103 ∷ 32 ∷ 48 ∷ 32 ∷ 48 ∷ 32 ∷ 48 ∷ 32 ∷ 48 ∷ 32 ∷ 48 ∷ 32 ∷ 48 ∷ 32 ∷ 48 ∷ 32 ∷ 49 ∷ 10 ∷ 49 ∷ 48 ∷ 52 ∷ 56 ∷ 53 ∷ 55 ∷
    53 ∷ 10 ∷ []) roomy) ≡ answer 10 28)
    -- aag 4 2 0 0 2 0 0 1 1\n2\n4\n1\n6\n8\n6 4 2\n8 6 4\n
    × (told (read_text (97 ∷ 97 ∷ 103 ∷ 32 ∷ 52 ∷ 32 ∷ 50 ∷ 32 ∷ 48 ∷ 32 ∷ 48 ∷ 32 ∷ 50 ∷ 32 ∷ 48 ∷ 32 ∷ 48 ∷ 32 ∷ 49 ∷ 32 ∷ 49 ∷ 10 ∷ 50 ∷ 10 ∷ 52 ∷ 10 ∷
    49 ∷ 10 ∷ 54 ∷ 10 ∷ 56 ∷ 10 ∷ 54 ∷ 32 ∷ 52 ∷ 32 ∷ 50 ∷ 10 ∷ 56 ∷ 32 ∷ 54 ∷ 32 ∷ 52 ∷ 10 ∷ []) roomy) ≡ answer 0 44)
    -- aag 3 2 0 1 1\n2\n4\n6\n6 4 2\n
    × (told (read_text (97 ∷ 97 ∷ 103 ∷ 32 ∷ 51 ∷ 32 ∷ 50 ∷ 32 ∷ 48 ∷ 32 ∷ 49 ∷ 32 ∷ 49 ∷ 10 ∷ 50 ∷ 10 ∷ 52 ∷ 10 ∷ 54 ∷ 10 ∷ 54 ∷ 32 ∷ 52 ∷ 32 ∷ 50 ∷ 10 ∷
    []) roomy) ≡ answer 0 26)
    -- aag 3 2 0 1 1\n2\n4\n6\n6 4 2\njunk
    × (told (read_text (97 ∷ 97 ∷ 103 ∷ 32 ∷ 51 ∷ 32 ∷ 50 ∷ 32 ∷ 48 ∷ 32 ∷ 49 ∷ 32 ∷ 49 ∷ 10 ∷ 50 ∷ 10 ∷ 52 ∷ 10 ∷ 54 ∷ 10 ∷ 54 ∷ 32 ∷ 52 ∷ 32 ∷ 50 ∷ 10 ∷
    106 ∷ 117 ∷ 110 ∷ 107 ∷ []) roomy) ≡ answer 0 26)
    -- aag 3 2 0 1 1\n2\n4\n6\n6 4 2
    × (told (read_text (97 ∷ 97 ∷ 103 ∷ 32 ∷ 51 ∷ 32 ∷ 50 ∷ 32 ∷ 48 ∷ 32 ∷ 49 ∷ 32 ∷ 49 ∷ 10 ∷ 50 ∷ 10 ∷ 52 ∷ 10 ∷ 54 ∷ 10 ∷ 54 ∷ 32 ∷ 52 ∷ 32 ∷ 50 ∷
    []) roomy) ≡ answer 18 25)
    -- aag 3 2 0 1 1\n2\n4\n6\n6 4\n
    × (told (read_text (97 ∷ 97 ∷ 103 ∷ 32 ∷ 51 ∷ 32 ∷ 50 ∷ 32 ∷ 48 ∷ 32 ∷ 49 ∷ 32 ∷ 49 ∷ 10 ∷ 50 ∷ 10 ∷ 52 ∷ 10 ∷ 54 ∷ 10 ∷ 54 ∷ 32 ∷ 52 ∷ 10 ∷
    []) roomy) ≡ answer 18 23)
    -- aag 3 2 0 1 1\n2\n4\n6\n7 4 2\n
    × (told (read_text (97 ∷ 97 ∷ 103 ∷ 32 ∷ 51 ∷ 32 ∷ 50 ∷ 32 ∷ 48 ∷ 32 ∷ 49 ∷ 32 ∷ 49 ∷ 10 ∷ 50 ∷ 10 ∷ 52 ∷ 10 ∷ 54 ∷ 10 ∷ 55 ∷ 32 ∷ 52 ∷ 32 ∷ 50 ∷ 10 ∷
    []) roomy) ≡ answer 14 20)
    -- aag 3 2 0 1 1\n2\n4\n6\n0 4 2\n
    × (told (read_text (97 ∷ 97 ∷ 103 ∷ 32 ∷ 51 ∷ 32 ∷ 50 ∷ 32 ∷ 48 ∷ 32 ∷ 49 ∷ 32 ∷ 49 ∷ 10 ∷ 50 ∷ 10 ∷ 52 ∷ 10 ∷ 54 ∷ 10 ∷ 48 ∷ 32 ∷ 52 ∷ 32 ∷ 50 ∷ 10 ∷
    []) roomy) ≡ answer 13 20)
    -- aag 3 2 0 1 1\n2\n4\n6\n8 4 2\n
    × (told (read_text (97 ∷ 97 ∷ 103 ∷ 32 ∷ 51 ∷ 32 ∷ 50 ∷ 32 ∷ 48 ∷ 32 ∷ 49 ∷ 32 ∷ 49 ∷ 10 ∷ 50 ∷ 10 ∷ 52 ∷ 10 ∷ 54 ∷ 10 ∷ 56 ∷ 32 ∷ 52 ∷ 32 ∷ 50 ∷ 10 ∷
    []) roomy) ≡ answer 12 20)
    -- aag 3 2 0 1 1\n2\n4\n6\n6 8 2\n
    × (told (read_text (97 ∷ 97 ∷ 103 ∷ 32 ∷ 51 ∷ 32 ∷ 50 ∷ 32 ∷ 48 ∷ 32 ∷ 49 ∷ 32 ∷ 49 ∷ 10 ∷ 50 ∷ 10 ∷ 52 ∷ 10 ∷ 54 ∷ 10 ∷ 54 ∷ 32 ∷ 56 ∷ 32 ∷ 50 ∷ 10 ∷
    []) roomy) ≡ answer 12 22)
    -- aag 3 2 0 1 1\n2\n4\n8\n6 4 2\n
    × (told (read_text (97 ∷ 97 ∷ 103 ∷ 32 ∷ 51 ∷ 32 ∷ 50 ∷ 32 ∷ 48 ∷ 32 ∷ 49 ∷ 32 ∷ 49 ∷ 10 ∷ 50 ∷ 10 ∷ 52 ∷ 10 ∷ 56 ∷ 10 ∷ 54 ∷ 32 ∷ 52 ∷ 32 ∷ 50 ∷ 10 ∷
    []) roomy) ≡ answer 12 18)
    -- aag 3 1 0 1 2\n2\n6\n6 4 2\n4 2 2\n
    × (told (read_text (97 ∷ 97 ∷ 103 ∷ 32 ∷ 51 ∷ 32 ∷ 49 ∷ 32 ∷ 48 ∷ 32 ∷ 49 ∷ 32 ∷ 50 ∷ 10 ∷ 50 ∷ 10 ∷ 54 ∷ 10 ∷ 54 ∷ 32 ∷ 52 ∷ 32 ∷ 50 ∷ 10 ∷ 52 ∷ 32 ∷
    50 ∷ 32 ∷ 50 ∷ 10 ∷ []) roomy) ≡ answer 0 30)
    -- aag 1 0 0 0 1\n2 2 2\n
    × (told (read_text (97 ∷ 97 ∷ 103 ∷ 32 ∷ 49 ∷ 32 ∷ 48 ∷ 32 ∷ 48 ∷ 32 ∷ 48 ∷ 32 ∷ 49 ∷ 10 ∷ 50 ∷ 32 ∷ 50 ∷ 32 ∷ 50 ∷ 10 ∷ []) roomy) ≡ answer 0 20)
    -- a half adder: aag 7 2 0 2 3\n2\n4\n6\n12\n6 13 15\n12 2 4\n14 3 5\n
    × (told (read_text (97 ∷ 97 ∷ 103 ∷ 32 ∷ 55 ∷ 32 ∷ 50 ∷ 32 ∷ 48 ∷ 32 ∷ 50 ∷ 32 ∷ 51 ∷ 10 ∷ 50 ∷ 10 ∷ 52 ∷ 10 ∷ 54 ∷ 10 ∷ 49 ∷ 50 ∷ 10 ∷ 54 ∷ 32 ∷ 49 ∷
    51 ∷ 32 ∷ 49 ∷ 53 ∷ 10 ∷ 49 ∷ 50 ∷ 32 ∷ 50 ∷ 32 ∷ 52 ∷ 10 ∷ 49 ∷ 52 ∷ 32 ∷ 51 ∷ 32 ∷ 53 ∷ 10 ∷ []) roomy) ≡ answer 0 45)
    -- a toggle flip-flop: aag 1 0 1 2 0\n2 3\n2\n3\n
    × (told (read_text (97 ∷ 97 ∷ 103 ∷ 32 ∷ 49 ∷ 32 ∷ 48 ∷ 32 ∷ 49 ∷ 32 ∷ 50 ∷ 32 ∷ 48 ∷ 10 ∷ 50 ∷ 32 ∷ 51 ∷ 10 ∷ 50 ∷ 10 ∷ 51 ∷ 10 ∷
    []) roomy) ≡ answer 0 22)
    -- one with enable and reset: aag 7 2 1 2 4\n2\n4\n6 8\n6\n7\n8 4 10\n10 13 15\n12 2 6\n14 3 7\n
    × (told (read_text (97 ∷ 97 ∷ 103 ∷ 32 ∷ 55 ∷ 32 ∷ 50 ∷ 32 ∷ 49 ∷ 32 ∷ 50 ∷ 32 ∷ 52 ∷ 10 ∷ 50 ∷ 10 ∷ 52 ∷ 10 ∷ 54 ∷ 32 ∷ 56 ∷ 10 ∷ 54 ∷ 10 ∷ 55 ∷ 10 ∷
    56 ∷ 32 ∷ 52 ∷ 32 ∷ 49 ∷ 48 ∷ 10 ∷ 49 ∷ 48 ∷ 32 ∷ 49 ∷ 51 ∷ 32 ∷ 49 ∷ 53 ∷ 10 ∷ 49 ∷ 50 ∷ 32 ∷ 50 ∷ 32 ∷ 54 ∷ 10 ∷ 49 ∷ 52 ∷ 32 ∷ 51 ∷ 32 ∷ 55 ∷ 10 ∷
    []) roomy) ≡ answer 0 56)
unfolding digits_of digits_at uint_at header_field_at lit_at is_byte byte_at tag_at number_at line_at lines_at reset_line_at reset_at latch_at count_at others_at counts_at
    header_at root_room_at properties_at sizes_at roots_at defined_at input_at inputs_at stated_at latches_at input_pair_at gate_at gates_at sized_at lists_at body_at read_text
table = (
  refl,
  refl,
  refl,
  refl,
  refl,
  refl,
  refl,
  refl,
  refl,
  refl,
  refl,
  refl,
  refl,
  refl,
  refl,
  refl,
  refl,
  refl,
  refl,
  refl,
  refl,
  refl,
  refl,
  refl,
  refl,
  refl,
  refl,
  refl,
  refl,
  refl,
  refl,
  refl,
  refl,
  refl,
  refl,
  refl,
  refl,
  refl,
  refl,
  refl,
  refl,
  refl,
  refl,
  refl,
  refl,
  refl,
  refl,
  refl,
  refl,
  refl,
  refl,
  refl,
  refl,
  refl,
  refl,
  refl,
  refl,
  refl,
  refl,
  refl,
  refl,
  refl,
  refl,
  refl,
  refl,
)
