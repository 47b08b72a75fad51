-- The worked text and the tables of texts, computed.
use mathlib.Core.Path.{refl}
use mathlib.Core.List.{flatten}
use Rattle.board.specs.Causes.{first_standing}
use Rattle.board.specs.Hex.{bytes_text, sum_of, record_text, low_bytes, word_bytes, hex_from, byte_of, bytes_in, all_bytes, has_record, has_data, has_end, parsed_from, parsed, word_of, words_of, hex_write_causes, hex_write_cause, hex_write_left, hex_read_causes, hex_read_cause, hex_read_left}
use Rattle.board.specs.Bench.{same}
use Rattle.board.specs.HexTexts.{read_gives, all_reads, no_files, lengths, write_gives, all_writes, write_table, HexTextsHold}

pub hex-texts-hold : HexTextsHold
unfolding flatten same bytes_text sum_of record_text low_bytes word_bytes hex_from byte_of bytes_in all_bytes has_record has_data has_end parsed_from parsed word_of words_of first_standing hex_write_causes hex_write_cause hex_write_left hex_read_causes hex_read_cause hex_read_left read_gives all_reads no_files lengths write_gives all_writes write_table
hex-texts-hold = record { worked = refl; past = refl; back = refl; other = refl; files = refl; sizes = refl; writings = refl }
