mod Rows
mod RecipeRows
