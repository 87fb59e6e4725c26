-- The rules that the words after a command are read by, as clap sees them (ours).
use Rattle.std.specs.Prelude.{true, Some, List, [], ◌∷◌, codes}
use Rattle.clap.specs.Simple.{App, new_rule, new_shape}
use Rattle.clap.specs.Walk.{Rule, Text}
use Rattle.clap.specs.declared.builder.action.ArgAction.TheVariants.{Append}
use Rattle.clap.specs.declared.error.kind.ErrorKind.{ErrorKind}
use Rattle.clap.specs.declared.error.kind.ErrorKind.TheVariants.{OutOfMemory}
use Rattle.coord_words.specs.Uses.{budget, gap, text_of}
use Rattle.coord_words.specs.declared.command.WordsRefusal.{WordsRefusal}
use Rattle.coord_words.specs.declared.command.WordsRefusal.TheVariants.{NoMemory, Usage}

-- the rule for names: there may be any number of them, each of one word
abbrev pub name_rule : Rule
name_rule = record (new_rule (codes "name")) { action = Some Append }

-- the rule for an option: each use of it has one word
abbrev pub option_rule : Text → Rule
option_rule id = record (new_rule id) { long = Some id; action = Some Append }

-- rules alone: the first word is no program's name, and no flag is added
abbrev pub rules_with : List Rule → App
rules_with rules = record {
  top = record (new_shape (codes "coord")) {
    rules = rules;
    no_binary_name = true;
    disable_help_flag = true;
    disable_version_flag = true;
  };
  subs = [];
}

-- the rules for names and for all options
abbrev pub word_rules : App
word_rules = rules_with (name_rule ∷ option_rule (text_of gap) ∷ option_rule (text_of budget) ∷ [])

-- what a refusal of clap means: memory ran out, or the words do not keep the rules
abbrev pub refusal_for : ErrorKind → WordsRefusal
refusal_for OutOfMemory = NoMemory
refusal_for kind = Usage
