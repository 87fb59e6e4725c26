use Rattle.std.proofs.Common.{◌≡◌, string_bytes}
use Rattle.std.specs.List.{list_all}
use Rattle.std.specs.Map.{keys_of}
use Rattle.network_file.specs.Tables.{is_word_of}
use Rattle.network_file.proofs.fields.has_only.Given as goal

-- what is left decides as the whole
abbrev pub invariant-loop-text : goal.invariant-loop-text
invariant-loop-text l =
    list_all (λ text. is_word_of l.format l.keys (string_bytes text)) l.text-iterator ≡ list_all (λ text. is_word_of l.format l.keys (string_bytes text)) (keys_of l.table.entries)
