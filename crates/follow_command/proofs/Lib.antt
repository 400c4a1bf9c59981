mod WorkedFollow
