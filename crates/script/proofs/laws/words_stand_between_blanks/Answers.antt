use Rattle.script.proofs.Standing.{words-blank, words-comment, words-alone}
use Rattle.script.proofs.laws.words_stand_between_blanks.Goals as goal

pub returns-clause-a_word_is_told_before_those_behind_it : goal.returns-clause-a_word_is_told_before_those_behind_it
returns-clause-a_word_is_told_before_those_behind_it c = words-blank

pub returns-clause-a_comment_ends_the_last_word : goal.returns-clause-a_comment_ends_the_last_word
returns-clause-a_comment_ends_the_last_word c = words-comment

pub returns-clause-the_line_ends_the_last_word : goal.returns-clause-the_line_ends_the_last_word
returns-clause-the_line_ends_the_last_word c = words-alone
